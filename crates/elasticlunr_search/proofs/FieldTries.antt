-- Tries under the names of fields.
use Rattle.std.proofs.Common.{◌≡◌, ℕ, zero, suc, ◌<◌, ◌≤◌, ◌+◌, List, [], ◌∷◌, ◌++◌, length, take, get_or, Option, None}
use Rattle.std.proofs.Common.{Some, codes, String, Global, string_bytes, arith, refl, sym, ap, subst, ◌∙◌}
use Rattle.std.specs.Prelude.{IsSomeAnd}
use Rattle.std.specs.List.{AllZip}
use Rattle.std.proofs.lemmas.List.{take_all, take_more, map-append}
use Rattle.elasticlunr_text.specs.Text.{Bytes, bytes_of}
use Rattle.elasticlunr_trie.specs.Table.{Table}
use Rattle.serde_json.specs.Data.{Data}
use Rattle.serde_json.specs.Find.{get}
use Rattle.elasticlunr_search.specs.Fields.{HasWholeTrie, HasWholeTries}

-- one more on each side
pub push : {A B : Type 0} (R : A → B → Type 0) (xs : List A) (ys : List B) (x : A) (y : B) → AllZip R xs ys → R x y
    → AllZip R (xs ++ x ∷ []) (ys ++ y ∷ [])
push R [] [] x y all r = (r, tt)
push R [] (w ∷ ys) x y all r = absurd all
push R (v ∷ xs) [] x y all r = absurd all
push R (v ∷ xs) (w ∷ ys) x y all r = (all.0, push R xs ys x y all.1 r)

-- what holds of each pair, and what follows from that
pub each_weaker : {A B : Type 0} (R Q : A → B → Type 0) → ((x : A) (y : B) → R x y → Q x y)
    → (xs : List A) (ys : List B) → AllZip R xs ys → AllZip Q xs ys
each_weaker R Q f [] [] all = tt
each_weaker R Q f [] (y ∷ ys) all = absurd all
each_weaker R Q f (x ∷ xs) [] all = absurd all
each_weaker R Q f (x ∷ xs) (y ∷ ys) all = (f x y all.0, each_weaker R Q f xs ys all.1)

-- one field more
pub next_trie : (index : Data) (names : List (String Global)) (i : ℕ) (name : String Global) (key : Bytes)
    (tables after : List Table) (table : Table) → i < length names → name ≡ get_or names i name → key
    ≡ string_bytes name
    → AllZip (HasWholeTrie index) (bytes_of (take i names)) tables → HasWholeTrie index key table → after
    ≡ tables ++ table ∷ [] → AllZip (HasWholeTrie index) (bytes_of (take (i + 1) names)) after
next_trie index names i name key tables after table lt at is before has pushed =
    let more : bytes_of (take (i + 1) names) ≡ bytes_of (take i names) ++ key ∷ [] =
    ap bytes_of (take_more names i name lt ∙ ap (λ y. take i names ++ y ∷ []) (sym at))
    ∙ map-append string_bytes (take i names) (name ∷ []) ∙ ap (λ k. bytes_of (take i names) ++ k ∷ []) (sym is) in
    subst (λ ns. AllZip (HasWholeTrie index) ns after) (sym more)
    (subst (AllZip (HasWholeTrie index) (bytes_of (take i names) ++ key ∷ [])) (sym pushed)
    (push (HasWholeTrie index) (bytes_of (take i names)) tables key table before has))

-- a field without a trie
pub no_trie : (index : Data) (names : List (String Global)) (i : ℕ) (name : String Global) → i < length names → name
    ≡ get_or names i name → ((table : Table) → ¬ HasWholeTrie index (string_bytes name) table)
    → (tables : List Table) → ¬ AllZip (HasWholeTrie index) (bytes_of names) tables
no_trie index [] i name lt at none tables all = absurd (omega arith)
no_trie index (n ∷ names) i name lt at none [] all = all
no_trie index (n ∷ names) zero name lt at none (T ∷ tables) all =
    none T (subst (λ s. HasWholeTrie index (string_bytes s) T) (sym at) all.0)
no_trie index (n ∷ names) (suc i) name lt at none (T ∷ tables) all = no_trie index names i name (omega arith) at none
    tables all.1

-- as many tries as names
as_many : (R : Bytes → Table → Type 0) (names : List (String Global)) (tables : List Table)
    → AllZip R (bytes_of names) tables → length tables ≡ length names
as_many R [] [] all = refl
as_many R [] (T ∷ tables) all = absurd all
as_many R (n ∷ names) [] all = absurd all
as_many R (n ∷ names) (T ∷ tables) all = ap suc (as_many R names tables all.1)

some_as_many : (R : Data → Bytes → Table → Type 0) (o : Option Data) (names : List (String Global))
    (tables : List Table) → IsSomeAnd o (λ index. AllZip (R index) (bytes_of names) tables) → length tables
    ≡ length names
some_as_many R None names tables all = absurd all
some_as_many R (Some index) names tables all = as_many (R index) names tables all

pub tables_as_many : (v : Data) (names : List (String Global)) (tables : List Table)
    → HasWholeTries v (bytes_of names) tables → length tables ≡ length names
tables_as_many v names tables has = some_as_many HasWholeTrie (get (codes "index") v) names tables has

pub whole : (index : Data) (names : List (String Global)) (i : ℕ) (tables : List Table) → length names ≤ i
    → AllZip (HasWholeTrie index) (bytes_of (take i names)) tables
    → AllZip (HasWholeTrie index) (bytes_of names) tables
whole index names i tables past all = subst (λ ns. AllZip (HasWholeTrie index) (bytes_of ns) tables)
    (take_all i names past) all
