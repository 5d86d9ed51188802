-- What stands in the maps of a store.
use Rattle.std.proofs.Common.{◌≡◌, List, [], ◌∷◌, map, String, Global, string_bytes, string_cmp, refl, sym, ap, ◌∙◌}
use Rattle.std.specs.BTreeMap.{BTreeMap}
use Rattle.std.specs.FinMap.{entries}
use Rattle.std.specs.List.Sorted.{IsStrictlySortedBy}
use Rattle.std.specs.Map.{keys_of}
use Rattle.elasticlunr_error.specs.Text.{bytes_of}
use Rattle.elasticlunr_json.proofs.Sorted.{entries_seen, shown}
use Rattle.elasticlunr_store.specs.Contents.{Contents, text_map, document_texts}
use Rattle.elasticlunr_pieces.specs.Entries.{references}

abbrev pub Docs : Type 0
Docs = List (String Global × BTreeMap (String Global) (String Global))

names_shown : (es : Docs) → map (λ e. e.0) (shown (λ m. text_map m.entries) es) ≡ map (λ e. string_bytes e.0) es
names_shown [] = refl
names_shown (e ∷ es) = ap (λ r. string_bytes e.0 ∷ r) (names_shown es)

documents_shown : (es : Docs) → map (λ e. e.1) (shown (λ m. text_map m.entries) es) ≡ map (λ e. text_map e.1.entries) es
documents_shown [] = refl
documents_shown (e ∷ es) = ap (λ r. text_map e.1.entries ∷ r) (documents_shown es)

pub all_references : (c : Contents) (es : Docs) → document_texts es ≡ c.texts
    → IsStrictlySortedBy string_cmp (keys_of es)
    → map (λ e. string_bytes e.0) es ≡ references c
all_references c es are order = sym (names_shown es)
    ∙ ap (map (λ e. e.0)) (sym (entries_seen (λ m. text_map m.entries) es order) ∙ ap entries are)

-- the bytes of the keys
pub names_by_keys : (es : Docs) → bytes_of (keys_of es) ≡ map (λ e. string_bytes e.0) es
names_by_keys [] = refl
names_by_keys (e ∷ es) = ap (λ r. string_bytes e.0 ∷ r) (names_by_keys es)

pub all_kept : (c : Contents) (es : Docs) → document_texts es ≡ c.texts → IsStrictlySortedBy string_cmp (keys_of es)
    → map (λ e. text_map e.1.entries) es ≡ map (λ e. e.1) (entries c.texts)
all_kept c es are order = sym (documents_shown es)
    ∙ ap (map (λ e. e.1)) (sym (entries_seen (λ m. text_map m.entries) es order) ∙ ap entries are)
