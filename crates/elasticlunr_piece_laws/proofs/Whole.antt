-- The tokens of an index that is cut into pieces.
use Rattle.std.proofs.Common.{◌≡◌, ◌≢◌, ◌<◌, ℕ, zero, suc, true, true≢false, List, [], ◌∷◌, length, get_or}
use Rattle.std.proofs.Common.{Option, Some, None, IsSome, is_some, refl, sym, ap, ◌∙◌, arith, inl, inr}
use Rattle.std.specs.Prelude.{unwrap_or}
use Rattle.std.specs.FinMap.{empty, get, get-empty}
use Rattle.std.specs.Str.{all_scalars, chars}
use Rattle.serde_json.specs.Data.{Members, object}
use Rattle.elasticlunr_error.specs.Text.{Text, Bytes, is_listed, text_cmp}
use Rattle.elasticlunr_store.specs.Contents.{TextMap}
use Rattle.elasticlunr_trie.specs.Table.{Table, IsTable, Postings, knows, posting}
use Rattle.elasticlunr_pieces.specs.Entries.{IsTokenIn}
use Rattle.elasticlunr_pieces.specs.Pieces.{ArePieces, tokens_text}
use Rattle.elasticlunr_pieces.proofs.Standing.{listed_group}
use Rattle.elasticlunr_print.specs.declared.parts.Parts.{Parts}
use Rattle.elasticlunr_piece_laws.specs.Whole.{IsWhole}

-- a text with a posting is known
known : (T : Table) (t : Text) (r : Bytes) → IsSome (posting T t r) → knows T t ≡ true
known T t r has = by (get T t) has
  where
    by : (o : Option Postings) → IsSome (get {R = text_cmp} (unwrap_or o empty) r) → is_some o ≡ true
    by None has = absurd (true≢false (sym has ∙ ap is_some (get-empty text_cmp r)))
    by (Some P) has = refl

pub characters : (parts : Parts) → IsWhole parts → (i : ℕ) (d : Table) → i < length parts.tries.now → (t : Text)
    (r : Bytes) → IsSome (posting (get_or parts.tries.now i d) t r) → all_scalars t ≡ true
characters parts whole i d lt t r has = (whole.are_tables i d lt).characters t (known (get_or parts.tries.now i d) t r has)

-- no token is empty
not_empty : (tables : List Table) → ((i : ℕ) (d : Table) → i < length tables → IsTable (get_or tables i d)) → (t : Text)
    → IsTokenIn tables t → t ≢ []
not_empty [] are t is none = is
not_empty (T ∷ ts) are t (inl (r, has)) none =
    true≢false (sym has ∙ ap is_some (ap (λ s. posting T s r) none ∙ (are zero T (omega arith)).bare_root r))
not_empty (T ∷ ts) are t (inr later) none =
    not_empty ts (λ i d lt. are (suc i) d (omega (arith, lt))) t later none

pub token_not_empty : (parts : Parts) (field : Bytes) (size : ℕ) (tries : List (List Bytes)) (texts : List (List TextMap))
    (titles : List (List Bytes)) → ArePieces parts field size tries texts titles → IsWhole parts → (number : ℕ)
    → number < length tries → (token : Bytes) → is_listed token (get_or tries number []) ≡ true → chars token ≢ []
token_not_empty parts field size tries texts titles a whole number lt token listed =
    let is = (a.are_tokens.all token).0 (listed_group (tokens_text parts) size token tries a.tokens number a.tries_cut
    (record { there = lt; listed = listed })) in
    not_empty parts.tries.now whole.are_tables (chars token) is.1

pub members_told : (ms ns : Members) → object ms ≡ object ns → ms ≡ ns
members_told ms ns e = cc
