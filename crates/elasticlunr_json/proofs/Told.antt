-- What is written for a value whose numbers are integers tells the value.
use Rattle.std.proofs.Common.{◌≡◌, ℕ, pos, negsuc, ◌+◌, false, ◌||◌, List, [], ◌++◌, Option, Some, unwrap_or, refl, sym}
use Rattle.std.proofs.Common.{ap, ap₂, ◌∙◌, arith}
use Rattle.json.specs.Token.{Token}
use Rattle.json.specs.Lex.{tokens}
use Rattle.json.specs.Json as json
use Rattle.json.specs.Print.{IsNumber, ArePrintable}
use Rattle.json.specs.Tree as tree
use Rattle.json.specs.Tree.{json_tokens, HasNumbers, ItemsHaveNumbers, MembersHaveNumbers}
use Rattle.json.proofs.Printed.Decimals.{IsNumber-decimal, IsNumber-signed_decimal}
use Rattle.json.proofs.Printed.Tokens.{tokens-print}
use Rattle.json.proofs.Printed.Trees.{value-json_tokens, ArePrintable-json_tokens}
use Rattle.serde_json.specs.Data.{Num, unsigned, negative, float, Data, null, boolean, number, string, array, object}
use Rattle.serde_json.specs.Data.{Items, no_items, item, Members, no_members, member}
use Rattle.serde_json.specs.Read.{number_of}
use Rattle.serde_json.specs.Written.{number_text, outline, items_outline, members_outline, has_float, items_have_float}
use Rattle.serde_json.specs.Written.{members_have_float, compact_text}
use Rattle.serde_json.proofs.Numbers.{number_of-decimal, number_of-negative}
use Rattle.serde_json.proofs.Texts.{print-outline}
use Rattle.elasticlunr_json.specs.Texts.{IsInteger, HasIntegers, ItemsHaveIntegers, MembersHaveIntegers, pretty_text}
use Rattle.elasticlunr_json.proofs.Spaced.{tokens-pretty}

-- ---- JSON tokens tell the JSON value

json_told : (j k : json.Json) → json_tokens j ≡ json_tokens k → j ≡ k
json_told j k same =
    let n : ℕ = tree.depth j + tree.depth k in
    ap (λ (o : Option (json.Json × List Token)). (unwrap_or o (j, [])).0)
    (sym (value-json_tokens j n [] (omega arith)) ∙ ap (λ ts. json.value n (ts ++ [])) same
    ∙ value-json_tokens k n [] (omega arith))

-- ---- the JSON value tells the value

number_back : (n : Num) → IsInteger n → number_of (number_text n) ≡ Some n
number_back (unsigned n) small = number_of-decimal n small
number_back (negative (pos n)) small = absurd small
number_back (negative (negsuc n)) small = number_of-negative n small
number_back (float x) small = absurd small

-- the value with these members, in the order in which they stand
abbrev mutual
  back : json.Json → Data
  back json.null = null
  back (json.boolean b) = boolean b
  back (json.number s) = number (unwrap_or (number_of s) (unsigned 0))
  back (json.string s) = string s
  back (json.array js) = array (items_back js)
  back (json.object ms) = object (members_back ms)

  items_back : json.Items → Items
  items_back json.no_items = no_items
  items_back (json.item j js) = item (back j) (items_back js)

  members_back : json.Members → Members
  members_back json.no_members = no_members
  members_back (json.member k j ms) = member k (back j) (members_back ms)

mutual
  back-outline : (d : Data) → HasIntegers d → back (outline d) ≡ d
  back-outline null whole = refl
  back-outline (boolean b) whole = refl
  back-outline (number n) whole = ap (λ o. number (unwrap_or o (unsigned 0))) (number_back n whole)
  back-outline (string s) whole = refl
  back-outline (array ds) whole = ap array (back-items ds whole)
  back-outline (object ms) whole = ap object (back-members ms whole)

  back-items : (ds : Items) → ItemsHaveIntegers ds → items_back (items_outline ds) ≡ ds
  back-items no_items whole = refl
  back-items (item d ds) whole = ap₂ item (back-outline d whole.0) (back-items ds whole.1)

  back-members : (ms : Members) → MembersHaveIntegers ms → members_back (members_outline ms) ≡ ms
  back-members no_members whole = refl
  back-members (member k d ms) whole = ap₂ (member k) (back-outline d whole.0) (back-members ms whole.1)

-- values of which the tokens are equal
pub value_told : (v w : Data) → HasIntegers v → HasIntegers w → json_tokens (outline v) ≡ json_tokens (outline w) → v
    ≡ w
value_told v w one other same = sym (back-outline v one) ∙ ap back (json_told (outline v) (outline w) same)
    ∙ back-outline w other

-- ---- the text tells the tokens

number_is : (n : Num) → IsInteger n → IsNumber (number_text n)
number_is (unsigned n) small = IsNumber-decimal n small
number_is (negative (pos n)) small = absurd small
number_is (negative (negsuc n)) small = IsNumber-signed_decimal (negsuc n) (omega arith)
number_is (float x) small = absurd small

mutual
  numbers_are : (d : Data) → HasIntegers d → HasNumbers (outline d)
  numbers_are null whole = tt
  numbers_are (boolean b) whole = tt
  numbers_are (number n) whole = number_is n whole
  numbers_are (string s) whole = tt
  numbers_are (array ds) whole = item_numbers_are ds whole
  numbers_are (object ms) whole = member_numbers_are ms whole

  item_numbers_are : (ds : Items) → ItemsHaveIntegers ds → ItemsHaveNumbers (items_outline ds)
  item_numbers_are no_items whole = tt
  item_numbers_are (item d ds) whole = (numbers_are d whole.0, item_numbers_are ds whole.1)

  member_numbers_are : (ms : Members) → MembersHaveIntegers ms → MembersHaveNumbers (members_outline ms)
  member_numbers_are no_members whole = tt
  member_numbers_are (member k d ms) whole = (numbers_are d whole.0, member_numbers_are ms whole.1)

printable : (d : Data) → HasIntegers d → ArePrintable (json_tokens (outline d))
printable d whole = ArePrintable-json_tokens (outline d) (numbers_are d whole)

pub tokens-compact_text : (d : Data) → HasIntegers d → tokens (compact_text d) ≡ json_tokens (outline d)
tokens-compact_text d whole = ap tokens (sym (print-outline d))
    ∙ tokens-print (json_tokens (outline d)) (printable d whole)

pub tokens-pretty_text : (d : Data) → HasIntegers d → tokens (pretty_text d) ≡ json_tokens (outline d)
tokens-pretty_text d whole = tokens-pretty (json_tokens (outline d)) (printable d whole)

pub compact_told : (v w : Data) → HasIntegers v → HasIntegers w → compact_text v ≡ compact_text w → v ≡ w
compact_told v w one other same = value_told v w one other (sym (tokens-compact_text v one) ∙ ap tokens same
    ∙ tokens-compact_text w other)

pub pretty_told : (v w : Data) → HasIntegers v → HasIntegers w → pretty_text v ≡ pretty_text w → v ≡ w
pretty_told v w one other same = value_told v w one other (sym (tokens-pretty_text v one) ∙ ap tokens same
    ∙ tokens-pretty_text w other)

-- ---- such a value has no float

mutual
  pub no_float : (d : Data) → HasIntegers d → has_float d ≡ false
  no_float null whole = refl
  no_float (boolean b) whole = refl
  no_float (number (unsigned n)) whole = refl
  no_float (number (negative z)) whole = refl
  no_float (number (float x)) whole = absurd whole
  no_float (string s) whole = refl
  no_float (array ds) whole = no_item_float ds whole
  no_float (object ms) whole = no_member_float ms whole

  no_item_float : (ds : Items) → ItemsHaveIntegers ds → items_have_float ds ≡ false
  no_item_float no_items whole = refl
  no_item_float (item d ds) whole = ap₂ (λ a b. a || b) (no_float d whole.0) (no_item_float ds whole.1)

  no_member_float : (ms : Members) → MembersHaveIntegers ms → members_have_float ms ≡ false
  no_member_float no_members whole = refl
  no_member_float (member k d ms) whole = ap₂ (λ a b. a || b) (no_float d whole.0) (no_member_float ms whole.1)
