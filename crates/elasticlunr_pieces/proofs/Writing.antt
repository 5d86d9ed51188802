-- Items and members that are written one after the other.
use Rattle.std.proofs.Common.{◌≡◌, ◌<◌, ◌+◌, ℕ, suc, List, [], ◌∷◌, ◌++◌, length, drop, get_or, sym, ap, ◌∙◌}
use Rattle.std.proofs.Common.{append_assoc, append-nil, add-one, drop-cons, Option, Some, None, Result, Ok, Err}
use Rattle.std.specs.Prelude.{IfOk}
use Rattle.json.specs.Token.{Token, key}
use Rattle.json.specs.Tree.{json_tokens, items_tokens, members_tokens}
use Rattle.json.specs.Print.{print, print_from, quoted}
use Rattle.serde_json.specs.Data.{Data, Items, item, Members, member}
use Rattle.serde_json.specs.Written.{outline, items_outline, members_outline, compact_text}
use Rattle.serde_json.proofs.Texts.{print-outline}
use Rattle.elasticlunr_error.specs.Text.{Bytes}
use Rattle.elasticlunr_pieces.specs.Entries.{number_of, numbered, with_number}
use Rattle.elasticlunr_pieces.specs.EntryTexts.{posting_tokens}
use Rattle.elasticlunr_pieces.specs.HeadTokens.{WritesMember}

-- the element at a place, and those after it
pub drop_step : {A : Type 0} (xs : List A) (i : ℕ) (x : A) → i < length xs → x ≡ get_or xs i x → drop i xs
    ≡ x ∷ drop (i + 1) xs
drop_step xs i x lt is = rw add-one (drop-cons xs i x lt ∙ ap (λ y. y ∷ drop (suc i) xs) (sym is))

-- one item was written, and others are left
pub item_written : (before after total : List Token) (d : Data) (ds : Items) → after ≡ before ++ json_tokens (outline d)
    → before ++ items_tokens (items_outline (item d ds)) ≡ total → after ++ items_tokens (items_outline ds) ≡ total
item_written before after total d ds written is = ap (λ r. r ++ items_tokens (items_outline ds)) written
    ∙ append_assoc before (json_tokens (outline d)) (items_tokens (items_outline ds)) ∙ is

-- one member was written, and others are left
pub member_written : (before after total : List Token) (name : Bytes) (d : Data) (ms : Members)
    → WritesMember before after name d → before ++ members_tokens (members_outline (member name d ms)) ≡ total
    → after ++ members_tokens (members_outline ms) ≡ total
member_written before after total name d ms written is = ap (λ r. r ++ members_tokens (members_outline ms)) written
    ∙ append_assoc before (key name ∷ json_tokens (outline d)) (members_tokens (members_outline ms)) ∙ is

-- the text of a member
pub member_text : (name : Bytes) (d : Data) → print (key name ∷ json_tokens (outline d))
    ≡ quoted name ++ 58 ∷ compact_text d
unfolding print_from
member_text name d = append_assoc (quoted name) (58 ∷ []) (print (json_tokens (outline d)))
    ∙ ap (λ r. quoted name ++ 58 ∷ r) (print-outline d)

-- a posting was written, and others are left
after_posting : (o : Option ℕ) (f : ℕ) (more : Items) (before after total : List Token)
    → after ≡ before ++ posting_tokens o f → before ++ items_tokens (items_outline (with_number o f more)) ≡ total
    → after ++ items_tokens (items_outline more) ≡ total
after_posting None f more before after total written is =
    ap (λ r. r ++ items_tokens (items_outline more)) (written ∙ append-nil before) ∙ is
after_posting (Some n) f more before after total written is =
    ap (λ r. r ++ items_tokens (items_outline more)) written
    ∙ append_assoc before (posting_tokens (Some n) f) (items_tokens (items_outline more)) ∙ is

pub posting_written : (names : List Bytes) (before after total : List Token) (p : Bytes × ℕ) (ps : List (Bytes × ℕ))
    → after ≡ before ++ posting_tokens (number_of names p.0) p.1
    → before ++ items_tokens (items_outline (numbered names (p ∷ ps))) ≡ total
    → after ++ items_tokens (items_outline (numbered names ps)) ≡ total
posting_written names before after total p ps = after_posting (number_of names p.0) p.1 (numbered names ps)
    before after total

-- what an answer shows
pub if_ok : {T E : Type 0} (r : Result T E) (P Q : T → Type 0) → ((x : T) → P x → Q x) → IfOk r P → IfOk r Q
if_ok (Ok x) P Q f p = f x p
if_ok (Err e) P Q f p = p
