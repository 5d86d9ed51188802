-- Arrays of names, read item by item.
use Rattle.std.proofs.Common.{◌≡◌, ◌≢◌, ◌<◌, ◌≤◌, ◌+◌, ℕ, zero, suc, List, [], ◌∷◌, ◌++◌, length, take, get_or, Some}
use Rattle.std.proofs.Common.{None, String, Global, string_bytes, sym, ap, ◌∙◌, arith}
use Rattle.std.proofs.lemmas.List.{take_all, take_more}
use Rattle.serde_json.specs.Data.{Data, string, array}
use Rattle.serde_json.specs.Find.{as_array, as_str}
use Rattle.serde_json.specs.View.{view, items_view}
use Rattle.serde_json.specs.declared.value.Value.{Value}
use Rattle.elasticlunr_text.specs.Text.{Bytes, bytes_of}
use Rattle.elasticlunr_trie.proofs.Keys.{bytes_behind}
use Rattle.elasticlunr_json.proofs.ReadingMaps.{array_of, string_of}
use Rattle.elasticlunr.specs.Printed.{texts}
use Rattle.elasticlunr.proofs.Values.{texts_push}

pub not_array : (d : Data) → None ≡ as_array d → (names : List Bytes) → d ≢ array (texts names)
not_array d none names e = let at : None ≡ Some (texts names) = none ∙ ap as_array e in cc

-- where each item was seen to be a name
pub all_names : (d : Data) (vs ws : List Value) (i : ℕ) (names : List Bytes) → Some (items_view vs) ≡ as_array d → ws
    ≡ vs → length ws ≤ i
    → items_view (take i ws) ≡ texts names → d ≡ array (texts names)
all_names d vs ws i names is same past seen = array_of d (items_view vs) is
    ∙ ap array (ap items_view (sym same ∙ sym (take_all i ws past)) ∙ seen)

none_at : (vs : List Value) (i : ℕ) (v : Value) (names : List Bytes) → i < length vs → v ≡ get_or vs i v
    → ((s : Bytes) → view v ≢ string s)
    → items_view vs ≢ texts names
none_at [] i v names lt is none e = absurd (omega arith)
none_at (w ∷ vs) i v [] lt is none e = cc (e)
none_at (w ∷ vs) zero v (name ∷ names) lt is none e = let head : view w
    ≡ string name = cc (e) in none name (ap view is ∙ head)
none_at (w ∷ vs) (suc i) v (name ∷ names) lt is none e = let rest : items_view vs
    ≡ texts names = cc (e) in none_at vs i v names (omega arith) is none rest

-- where an item is no name
pub not_all_names : (d : Data) (vs ws : List Value) (i : ℕ) (v : Value) → Some (items_view vs) ≡ as_array d → ws ≡ vs
    → i < length ws
    → v ≡ get_or ws i v → ((s : Bytes) → view v ≢ string s)
    → (names : List Bytes) → d ≢ array (texts names)
not_all_names d vs ws i v is same lt at none names e =
    let both : Some (items_view vs) ≡ Some (texts names) = is ∙ ap as_array e in
    let items : items_view vs ≡ texts names = cc (both) in
    none_at ws i v names lt at none (ap items_view same ∙ items)

-- one name more
pub next_name : (ws : List Value) (i : ℕ) (v : Value) (names after : List (String Global)) (s : String Global)
    (name : Bytes)
    → i < length ws → v ≡ get_or ws i v
    → items_view (take i ws) ≡ texts (bytes_of names) → Some name ≡ as_str (view v) → string_bytes s ≡ name → after
    ≡ names ++ s ∷ [] → items_view (take (i + 1) ws) ≡ texts (bytes_of after)
next_name ws i v names after s name lt at before is named pushed =
    ap items_view (take_more ws i v lt ∙ ap (λ y. take i ws ++ y ∷ []) (sym at))
    ∙ texts_push (take i ws) v (bytes_of names) (string_bytes s) before (string_of (view v) name is
    ∙ ap string (sym named))
    ∙ ap texts (sym (bytes_behind names s)) ∙ ap (λ ss. texts (bytes_of ss)) (sym pushed)
