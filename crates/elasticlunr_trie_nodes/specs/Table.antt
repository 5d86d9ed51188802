-- What an inverted index represents: a table of texts and postings.
use Rattle.std.specs.Prelude.{◌≡◌, ◌≢◌, ◌↔◌, ◌⊎◌, ℕ, ◌^◌, ◌<◌, Bool, true, List, [], ◌∷◌, ◌++◌}
use Rattle.std.specs.Prelude.{Option, Some, None, IsTrue, unwrap_or, nat_eq, map, String}
use Rattle.std.specs.declared.alloc.Global.{Global}
use Rattle.std.specs.Borrow.{Bor}
use Rattle.std.specs.Str.{all_scalars, chars, IsUtf8}
use Rattle.std.specs.FinMap.{FinMap, get, contains_key, empty, insert}
use Rattle.elasticlunr_error.specs.Text.{Text, Bytes, text_cmp}
use Rattle.elasticlunr_json.specs.Maps.{seen, same_map}

-- the frequency of each reference that has a posting
abbrev pub Postings : Type 0
Postings = FinMap {K = Bytes} text_cmp ℕ

-- the entries of a map from references to frequencies
abbrev pub Entries : Type 0
Entries = List (String Global × ℕ)

-- what they represent
abbrev pub postings_of : Entries → Postings
postings_of entries = seen (λ n. n) entries

-- the known texts, each with its postings
abbrev pub Table : Type 0
Table = FinMap {K = Text} text_cmp Postings

-- the table that knows the empty text alone, and has no posting
abbrev pub new_table : Table
new_table = insert empty [] empty

-- t is a known text
abbrev pub knows : Table → Text → Bool
knows T t = contains_key T t

-- the postings of t, which an unknown text does not have
abbrev pub postings : Table → Text → Postings
postings T t = unwrap_or (get T t) empty

-- the frequency that the reference r has at t
abbrev pub posting : Table → Text → Bytes → Option ℕ
posting T t r = get (postings T t) r

-- two tables know the same texts, each with the same postings
abbrev pub same_tables : Table → Table → Bool
same_tables T U = same_map (same_map nat_eq) T U

-- s is a beginning of t
abbrev pub IsPrefix : Text → Text → Type 0
IsPrefix s t = (rest : Text) × (s ++ rest ≡ t)

-- new has the posting n of the reference r at t, each other posting is that of old, and the
-- beginnings of t are known besides what old knows
pub record AddsToken (old new : Table) (t : Text) (r : Bytes) (n : ℕ) : Type 0 where
  pub known : (s : Text) → IsTrue (knows new s) ↔ (IsTrue (knows old s) ⊎ IsPrefix s t)
  pub set : posting new t r ≡ Some n
  pub others : (s : Text) (q : Bytes) → ¬ ((s ≡ t) × (q ≡ r)) → posting new s q ≡ posting old s q

-- new is old without the posting of the reference r at t, and knows the same texts
pub record RemovesToken (old new : Table) (t : Text) (r : Bytes) : Type 0 where
  pub known : (s : Text) → knows new s ≡ knows old s
  pub gone : posting new t r ≡ None
  pub others : (s : Text) (q : Bytes) → ¬ ((s ≡ t) × (q ≡ r)) → posting new s q ≡ posting old s q

-- a posting that is set, or one that is taken away
pub data Change : Type 0 where
  add : Text → Bytes → ℕ → Change
  remove : Text → Bytes → Change

-- the change leads from old to new; a posting of the empty text is not set
abbrev pub IsChanged : Change → Table → Table → Type 0
IsChanged (add t r n) old new = (t ≢ [] → AddsToken old new t r n) × (t ≡ [] → new ≡ old)
IsChanged (remove t r) old new = RemovesToken old new t r

-- the changes lead from old to new, one after the other
abbrev pub AreChanged : List Change → Table → Table → Type 0
AreChanged [] old new = new ≡ old
AreChanged (change ∷ changes) old new = (between : Table) × IsChanged change old between
    × AreChanged changes between new

-- tokens with their frequencies
abbrev pub told_tokens : List (Bor Bytes × ℕ) → List (Text × ℕ)
told_tokens tokens = map (λ t. (chars t.0.now, t.1)) tokens

-- for each token, the change that sets its posting of the reference r
abbrev pub additions : Bytes → List (Text × ℕ) → List Change
additions r tokens = map (λ t. add t.0 r t.1) tokens

-- one of the changes sets a posting of t
abbrev pub IsAdded : Text → List Change → Type 0
IsAdded t changes = (before : List Change) × (after : List Change) × (r : Bytes) × (n : ℕ)
    × (changes ≡ before ++ add t r n ∷ after)

-- The empty text is known and has no postings. Each beginning of a known text is known. Known texts
-- are lists of characters, references are texts, and frequencies have 64 bits.
pub record IsTable (T : Table) : Type 0 where
  pub empty_known : IsTrue (knows T [])
  pub beginnings : (s t : Text) → IsPrefix s t → IsTrue (knows T t) → IsTrue (knows T s)
  pub bare_root : (r : Bytes) → posting T [] r ≡ None
  pub characters : (t : Text) → IsTrue (knows T t) → all_scalars t ≡ true
  pub texts : (t : Text) (r : Bytes) (n : ℕ) → posting T t r ≡ Some n → IsUtf8 r
  pub small : (t : Text) (r : Bytes) (n : ℕ) → posting T t r ≡ Some n → n < 2 ^ 64
