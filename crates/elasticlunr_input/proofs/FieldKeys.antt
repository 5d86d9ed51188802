-- The keys of fields among members.
use Rattle.std.proofs.Common.{◌≡◌, ◌∷◌, List, map, is_some, cond, Bool, true, false, string_bytes, refl, ap, ◌∙◌}
use Rattle.std.specs.List.{filter}
use Rattle.serde_json.specs.Data.{Data}
use Rattle.serde_json.specs.Find.{as_str}
use Rattle.serde_json.specs.View.{members_view, view}
use Rattle.serde_json.proofs.Views.{Entry}
use Rattle.elasticlunr_text.specs.Text.{Bytes}
use Rattle.elasticlunr_input.specs.Fields.{is_field, pairs_of}

-- of these entries, the keys of fields
abbrev pub entry_keys : Bytes → List Entry → List Bytes
entry_keys reference_key es = map (λ m. m.0) (filter (is_field reference_key) (pairs_of (members_view es)))

-- of these entries, the keys of texts
abbrev pub keys_left : List Entry → List Bytes
keys_left es = map (λ m. m.0) (filter (λ m. is_some (as_str m.1)) (pairs_of (members_view es)))

first_left : (e : Entry) (es : List Entry) (b : Bool) → is_some (as_str (view e.1)) ≡ b
    → keys_left (e ∷ es) ≡ cond b (string_bytes e.0 ∷ keys_left es) (keys_left es)
first_left e es b is = ap (λ t. map (λ m. m.0) (cond t ((string_bytes e.0, view e.1) ∷ others) others)) is ∙ both b
  where
    others : List (Bytes × Data)
    others = filter (λ m. is_some (as_str m.1)) (pairs_of (members_view es))

    both : (t : Bool) → map (λ m. m.0) (cond t ((string_bytes e.0, view e.1) ∷ others) others)
        ≡ cond t (string_bytes e.0 ∷ keys_left es) (keys_left es)
    both true = refl
    both false = refl

-- a text comes first, or another member
pub text_left : (e : Entry) (es : List Entry) → is_some (as_str (view e.1)) ≡ true
    → keys_left (e ∷ es) ≡ string_bytes e.0 ∷ keys_left es
text_left e es is = first_left e es true is

pub other_left : (e : Entry) (es : List Entry) → is_some (as_str (view e.1)) ≡ false → keys_left (e ∷ es) ≡ keys_left es
other_left e es is = first_left e es false is
