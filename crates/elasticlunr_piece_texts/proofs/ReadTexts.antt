-- The text of a plain value is read as this value.
use Rattle.std.proofs.Common.{◌≡◌, ℕ, suc, ◌≤◌, max, [], Some, option_map, option_and_then, refl, sym, ap, subst, ◌∙◌}
use Rattle.std.proofs.Common.{arith, append-nil, Less}
use Rattle.std.specs.Ordering.{match_ordering}
use Rattle.json.specs.Json as json
use Rattle.json.specs.Lex.{tokens}
use Rattle.json.specs.Tree as tree
use Rattle.json.specs.Tree.{json_tokens}
use Rattle.json.proofs.Printed.Trees.{value-json_tokens}
use Rattle.elasticlunr_error.specs.Text.{Bytes, text_cmp}
use Rattle.elasticlunr_json.specs.Texts.{HasIntegers, ItemsHaveIntegers, MembersHaveIntegers}
use Rattle.elasticlunr_json.proofs.Told.{tokens-compact_text}
use Rattle.elasticlunr_trie.specs.Tree.{IsBelow, HasKeysInOrder}
use Rattle.elasticlunr_print.proofs.Members.{turned}
use Rattle.elasticlunr_print.proofs.Plain.{IsPlain, ArePlainItems, ArePlain}
use Rattle.serde_json.specs.Data.{Data, null, boolean, number, string, array, object, unsigned, negative, float, Items}
use Rattle.serde_json.specs.Data.{no_items, item, Members, no_members, member, put, depth, items_depth, members_depth}
use Rattle.serde_json.specs.Read.{number_of, of_json, of_items, of_members, max_depth, read}
use Rattle.serde_json.specs.Written.{compact_text, outline, items_outline, members_outline}
use Rattle.serde_json.proofs.Numbers.{number_of-decimal}

-- members, and then others
abbrev join : Members → Members → Members
join no_members ms = ms
join (member k d rest) ms = member k d (join rest ms)

join_none : (ms : Members) → join ms no_members ≡ ms
join_none no_members = refl
join_none (member k d ms) = ap (member k d) (join_none ms)

join_one : (done : Members) (k : Bytes) (d : Data) (ms : Members) → join (join done (member k d no_members)) ms
    ≡ join done (member k d ms)
join_one no_members k d ms = refl
join_one (member l e rest) k d ms = ap (member l e) (join_one rest k d ms)

below_later : (l k : Bytes) (d : Data) (rest ms : Members) → IsBelow l (join rest (member k d ms)) → text_cmp l k ≡ Less
below_later l k d no_members ms below = below.0
below_later l k d (member m e rest) ms below = below_later l k d rest ms below.1

-- a key above all others goes last
put_last : (done : Members) (k : Bytes) (d : Data) (ms : Members) → HasKeysInOrder (join done (member k d ms))
    → put k d done ≡ join done (member k d no_members)
put_last no_members k d ms order = refl
put_last (member l e rest) k d ms order =
    ap (λ o. match_ordering o (member k d (member l e rest)) (member l d rest) (member l e (put k d rest)))
    (turned l k (below_later l k d rest ms order.0))
    ∙ ap (member l e) (put_last rest k d ms order.1)

mutual
  -- the JSON of a plain value represents it
  data_back : (d : Data) → IsPlain d → HasIntegers d → of_json (outline d) ≡ Some d
  data_back null plain whole = refl
  data_back (boolean b) plain whole = refl
  data_back (number (unsigned n)) plain whole = ap (option_map number) (number_of-decimal n whole)
  data_back (number (negative z)) plain whole = absurd plain
  data_back (number (float x)) plain whole = absurd plain
  data_back (string s) plain whole = refl
  data_back (array ds) plain whole = ap (option_map array) (items_back ds plain whole)
  data_back (object ms) plain whole = ap (option_map object) (members_back ms no_members plain.0 plain.1 whole)

  items_back : (ds : Items) → ArePlainItems ds → ItemsHaveIntegers ds → of_items (items_outline ds) ≡ Some ds
  items_back no_items plain whole = refl
  items_back (item d ds) plain whole =
      ap (option_and_then (λ e. option_map (item e) (of_items (items_outline ds)))) (data_back d plain.0 whole.0)
      ∙ ap (option_map (item d)) (items_back ds plain.1 whole.1)

  members_back : (ms done : Members) → HasKeysInOrder (join done ms) → ArePlain ms → MembersHaveIntegers ms
      → of_members (members_outline ms) done ≡ Some (join done ms)
  members_back no_members done order plain whole = ap Some (sym (join_none done))
  members_back (member k d ms) done order plain whole =
      ap (option_and_then (λ e. of_members (members_outline ms) (put k e done))) (data_back d plain.0 whole.0)
      ∙ ap (of_members (members_outline ms)) (put_last done k d ms order)
      ∙ members_back ms (join done (member k d no_members)) (subst HasKeysInOrder (sym (join_one done k d ms)) order)
      plain.1 whole.1
      ∙ ap Some (join_one done k d ms)

mutual
  same_depth : (d : Data) → tree.depth (outline d) ≡ depth d
  same_depth null = refl
  same_depth (boolean b) = refl
  same_depth (number n) = refl
  same_depth (string s) = refl
  same_depth (array ds) = ap suc (same_items_depth ds)
  same_depth (object ms) = ap suc (same_members_depth ms)

  same_items_depth : (ds : Items) → tree.items_depth (items_outline ds) ≡ items_depth ds
  same_items_depth no_items = refl
  same_items_depth (item d ds) = λ i. max (same_depth d i) (same_items_depth ds i)

  same_members_depth : (ms : Members) → tree.members_depth (members_outline ms) ≡ members_depth ms
  same_members_depth no_members = refl
  same_members_depth (member k d ms) = λ i. max (same_depth d i) (same_members_depth ms i)

pub text_read : (d : Data) → IsPlain d → HasIntegers d → depth d ≤ max_depth → read (compact_text d) ≡ Some d
text_read d plain whole deep =
    ap (λ ts. option_and_then of_json (option_and_then (λ p. json.if_last p.0 p.1) (json.value max_depth ts)))
    (tokens-compact_text d whole ∙ sym (append-nil (json_tokens (outline d))))
    ∙ ap (λ o. option_and_then of_json (option_and_then (λ p. json.if_last p.0 p.1) o))
    (value-json_tokens (outline d) max_depth [] (omega (arith, same_depth d, deep)))
    ∙ data_back d plain whole
