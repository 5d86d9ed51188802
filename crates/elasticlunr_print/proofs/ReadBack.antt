-- A text of a plain value whose numbers have 64 bits is read as this value, and as no other.
use Rattle.std.proofs.Common.{◌≡◌, ℕ, suc, ◌+◌, ◌≤◌, max, List, [], ◌∷◌, ◌++◌, Option, Some, None, option_map}
use Rattle.std.proofs.Common.{option_and_then, unwrap_or, refl, sym, ap, subst, ◌∙◌, arith, append-nil, Less}
use Rattle.std.proofs.lemmas.List.Elements.{recursion_from_All}
use Rattle.std.specs.List.{All, AllByRecursion}
use Rattle.std.specs.Ordering.{match_ordering}
use Rattle.json.specs.Token.{Token}
use Rattle.json.specs.Lex.{tokens}
use Rattle.json.specs.Json as json
use Rattle.json.specs.Tree as tree
use Rattle.json.specs.Tree.{json_tokens, items_tokens, members_tokens}
use Rattle.json.proofs.Nesting.{value-depth}
use Rattle.json.proofs.Printed.Trees.{value-json_tokens}
use Rattle.elasticlunr_error.specs.Text.{Bytes, text_cmp}
use Rattle.elasticlunr_store.specs.Contents.{Contents}
use Rattle.elasticlunr_trie.specs.Table.{Table}
use Rattle.elasticlunr_json.specs.Tokens.{IsSmallToken}
use Rattle.elasticlunr_trie.specs.Tree.{IsBelow, HasKeysInOrder}
use Rattle.serde_json.specs.Data.{Data, null, boolean, number, string, array, object, unsigned, negative, float, Items}
use Rattle.serde_json.specs.Data.{no_items, item, Members, no_members, member, put, depth, items_depth, members_depth}
use Rattle.serde_json.specs.Read.{number_of, of_json, of_items, of_members, max_depth, read}
use Rattle.serde_json.specs.Written.{outline, items_outline, members_outline}
use Rattle.serde_json.proofs.Numbers.{number_of-decimal}
use Rattle.elasticlunr_print.specs.Printed.{IsValueOf, IsReadAs, read_within}
use Rattle.elasticlunr_commands.specs.Standing.{Plan}
use Rattle.elasticlunr_print.proofs.Decimals.{same_number}
use Rattle.elasticlunr_print.proofs.Deeper.{value_deeper}
use Rattle.elasticlunr_print.proofs.Members.{turned}
use Rattle.elasticlunr_print.proofs.Plain.{IsPlain, ArePlainItems, ArePlain}
use Rattle.elasticlunr_print.proofs.PlainValues.{value_plain}

-- members, and then others
abbrev join : Members → Members → Members
join no_members ms = ms
join (member k d rest) ms = member k d (join rest ms)

join_none : (ms : Members) → join ms no_members ≡ ms
join_none no_members = refl
join_none (member k d ms) = ap (member k d) (join_none ms)

join_one : (done : Members) (k : Bytes) (d : Data) (ms : Members) → join (join done (member k d no_members)) ms
    ≡ join done (member k d ms)
join_one no_members k d ms = refl
join_one (member l e rest) k d ms = ap (member l e) (join_one rest k d ms)

below_later : (l k : Bytes) (d : Data) (rest ms : Members) → IsBelow l (join rest (member k d ms)) → text_cmp l k ≡ Less
below_later l k d no_members ms below = below.0
below_later l k d (member m e rest) ms below = below_later l k d rest ms below.1

-- a key above all others goes last
put_last : (done : Members) (k : Bytes) (d : Data) (ms : Members) → HasKeysInOrder (join done (member k d ms))
    → put k d done ≡ join done (member k d no_members)
put_last no_members k d ms order = refl
put_last (member l e rest) k d ms order =
    ap (λ o. match_ordering o (member k d (member l e rest)) (member l d rest) (member l e (put k d rest)))
    (turned l k (below_later l k d rest ms order.0))
    ∙ ap (member l e) (put_last rest k d ms order.1)

abbrev AreSmall : List Token → Type 0
AreSmall ts = AllByRecursion IsSmallToken ts

split : (ts us : List Token) → AreSmall (ts ++ us) → AreSmall ts × AreSmall us
split [] us small = (tt, small)
split (t ∷ ts) us small = let more = split ts us small.1 in ((small.0, more.0), more.1)

mutual
  -- the JSON of a plain value represents it
  data_back : (d : Data) → IsPlain d → AreSmall (json_tokens (outline d)) → of_json (outline d) ≡ Some d
  data_back null plain small = refl
  data_back (boolean b) plain small = refl
  data_back (number (unsigned n)) plain small =
      let m = small.0 in
      let same : m.0 ≡ n = same_number m.0 n m.1 (sym m.2) in
      ap (λ s. option_map number (number_of s)) m.2 ∙ ap (option_map number) (number_of-decimal m.0 m.1)
      ∙ ap (λ i. Some (number (unsigned i))) same
  data_back (number (negative z)) plain small = absurd plain
  data_back (number (float x)) plain small = absurd plain
  data_back (string s) plain small = refl
  data_back (array ds) plain small = ap (option_map array) (items_back ds plain small.1)
  data_back (object ms) plain small = ap (option_map object) (members_back ms no_members plain.0 plain.1 small.1)

  items_back : (ds : Items) → ArePlainItems ds → AreSmall (items_tokens (items_outline ds))
      → of_items (items_outline ds) ≡ Some ds
  items_back no_items plain small = refl
  items_back (item d ds) plain small =
      let parts = split (json_tokens (outline d)) (items_tokens (items_outline ds)) small in
      ap (option_and_then (λ e. option_map (item e) (of_items (items_outline ds)))) (data_back d plain.0 parts.0)
      ∙ ap (option_map (item d)) (items_back ds plain.1 parts.1)

  members_back : (ms done : Members) → HasKeysInOrder (join done ms) → ArePlain ms
      → AreSmall (members_tokens (members_outline ms)) → of_members (members_outline ms) done ≡ Some (join done ms)
  members_back no_members done order plain small = ap Some (sym (join_none done))
  members_back (member k d ms) done order plain small =
      let parts = split (json_tokens (outline d)) (members_tokens (members_outline ms)) small.1 in
      ap (option_and_then (λ e. of_members (members_outline ms) (put k e done))) (data_back d plain.0 parts.0)
      ∙ ap (of_members (members_outline ms)) (put_last done k d ms order)
      ∙ members_back ms (join done (member k d no_members)) (subst HasKeysInOrder (sym (join_one done k d ms)) order)
      plain.1 parts.1
      ∙ ap Some (join_one done k d ms)

mutual
  same_depth : (d : Data) → tree.depth (outline d) ≡ depth d
  same_depth null = refl
  same_depth (boolean b) = refl
  same_depth (number n) = refl
  same_depth (string s) = refl
  same_depth (array ds) = ap suc (same_items_depth ds)
  same_depth (object ms) = ap suc (same_members_depth ms)

  same_items_depth : (ds : Items) → tree.items_depth (items_outline ds) ≡ items_depth ds
  same_items_depth no_items = refl
  same_items_depth (item d ds) = λ i. max (same_depth d i) (same_items_depth ds i)

  same_members_depth : (ms : Members) → tree.members_depth (members_outline ms) ≡ members_depth ms
  same_members_depth no_members = refl
  same_members_depth (member k d ms) = λ i. max (same_depth d i) (same_members_depth ms i)

-- where the tokens are those of a value, what is read of them is this value
module _ (j : json.Json) (ts : List Token) (are : ts ≡ json_tokens j) where
  deep_enough : (n : ℕ) → tree.depth j ≤ n → json.value n ts ≡ Some (j, [])
  deep_enough n h = ap (json.value n) (are ∙ sym (append-nil (json_tokens j))) ∙ value-json_tokens j n [] h

  -- of no other JSON value are these the tokens
  only_value : (limit : ℕ) (k : json.Json) → json.value limit ts ≡ Some (k, []) → k ≡ j
  only_value limit k is =
      let n : ℕ = limit + tree.depth j in
      ap (λ (o : Option (json.Json × List Token)). (unwrap_or o (j, [])).0)
      (sym (value_deeper limit n (omega arith) ts (k, []) is) ∙ deep_enough n (omega arith))

  only_json : (limit : ℕ) (o : Option (json.Json × List Token)) (w : Data) → json.value limit ts ≡ o
      → option_and_then of_json (option_and_then (λ p. json.if_last p.0 p.1) o) ≡ Some w → of_json j ≡ Some w
  only_json limit None w is e = absurd (cc)
  only_json limit (Some (k, t ∷ more)) w is e = absurd (cc)
  only_json limit (Some (k, [])) w is e = ap of_json (sym (only_value limit k is)) ∙ e

  -- what is passed over is nested no deeper than a reader goes
  passed : (o : Option (json.Json × List Token)) → json.value max_depth ts ≡ o → option_map (λ p. p.1) o ≡ Some []
      → tree.depth j ≤ max_depth
  passed None is e = absurd (cc)
  passed (Some (k, t ∷ more)) is e = absurd (cc)
  passed (Some (k, [])) is e = subst (λ x. tree.depth x ≤ max_depth) (only_value max_depth k is)
      (value-depth max_depth ts [] k is)

-- the text of an index's value is read as this value, and as no other
pub printed_reads : (plan : Plan) (tables : List Table) (contents : Contents) (v : Data) (text : List ℕ)
    (ts : List Token)
    → IsValueOf plan tables contents v → tokens text ≡ ts → ts ≡ json_tokens (outline v) → All IsSmallToken ts
    → IsReadAs text v
printed_reads plan tables contents v text ts printed found are small =
    let back = data_back v (value_plain plan tables contents v printed)
    (recursion_from_All IsSmallToken _ (subst (All IsSmallToken) are small)) in
    let reads : (limit : ℕ) → depth v ≤ limit → read_within limit text ≡ Some v = λ limit deep.
    ap (λ o. option_and_then of_json (option_and_then (λ p. json.if_last p.0 p.1) o))
    (deep_enough (outline v) (tokens text) (found ∙ are) limit (omega (arith, same_depth v, deep)))
    ∙ back in
    let no_other : (limit : ℕ) (w : Data) → read_within limit text ≡ Some w → w ≡ v = λ limit w e.
    let both : Some v ≡ Some w = sym back ∙ only_json (outline v) (tokens text) (found ∙ are) limit _ w refl e in
    let same : w ≡ v = cc in
    same in
    record { reads = reads max_depth; no_other = no_other max_depth; reads_within = reads; no_other_within = no_other }

-- a text whose tokens are those of an index's value, and that is passed over as one value, is read as this value
pub passed_reads : (plan : Plan) (tables : List Table) (contents : Contents) (v : Data) (text : List ℕ)
    → IsValueOf plan tables contents v → tokens text ≡ json_tokens (outline v) → All IsSmallToken (tokens text)
    → json.skip_value max_depth (tokens text) ≡ Some [] → read text ≡ Some v
passed_reads plan tables contents v text printed are small over =
    (printed_reads plan tables contents v text (tokens text) printed refl are small).reads
    (omega (arith, same_depth v, passed (outline v) (tokens text) are (json.value max_depth (tokens text)) refl over))
