-- What is left of a text whose end is looked at from the last character on, and the longest suffix.
use Rattle.std.proofs.Common.{◌≡◌, ℕ, ◌+◌, ◌-◌, ◌≤◌, ◌<◌, Bool, true, false, IsTrue, List, [], ◌∷◌, ◌++◌, length, take}
use Rattle.std.proofs.Common.{reverse, refl, sym, ◌∙◌, ap, subst, arith, cond, Option, Some, None, drop, map, get_or}
use Rattle.elasticlunr_stems.proofs.BoolLemmas.{and-left, and-right, le-test, lt-fails, le-holds}
use Rattle.std.specs.Prelude.{nat_lt, nat_le, ◌&&◌, bytes_eq}
use Rattle.std.proofs.lemmas.List.{reverse-append, take_at, take-take, length-append, drop_more}
use Rattle.elasticlunr_stems.specs.Tables.{Row}
use Rattle.elasticlunr_stems.specs.Stems.{run_off, longest, longer, ends_in}
use Rattle.elasticlunr_stems.specs.declared.row.Row.{Row as RowHeld}
use Rattle.elasticlunr_stems.specs.RowViews.{row_of}
use Rattle.elasticlunr_stems.specs.Runs.{IsCutAt}
use Rattle.elasticlunr_stems.specs.Safe.{get_no_longer, are_longest_first}

pub run_off-more : (p : ℕ → Bool) (rest front : List ℕ) (x : ℕ) → rest ≡ front ++ x ∷ [] → p x ≡ true
    → run_off p (reverse rest) ≡ run_off p (reverse front)
run_off-more p rest front x e h =
    let back : reverse rest ≡ x ∷ reverse front = ap (λ (t : List ℕ). reverse t) e ∙ reverse-append front (x ∷ []) in
    ap (run_off p) back ∙ ap (λ b. cond b (run_off p (reverse front)) (reverse (x ∷ reverse front))) h

pub front-shorter : (text rest front : List ℕ) (x : ℕ) → take (length rest) text ≡ rest → rest ≡ front ++ x ∷ []
    → take (length front) text ≡ front
front-shorter text rest front x t e =
    let le : length front ≤ length rest = omega (arith, ap length e, length-append front (x ∷ [])) in
    sym (take-take (length front) (length rest) text le) ∙ ap (take (length front)) (t ∙ e)
    ∙ take_at front (x ∷ []) (length front) refl

-- the row that is found in rows of which none is longer than len is none longer
abbrev pub IsUpTo : ℕ → Option Row → Type 0
IsUpTo len None = Unit {0}
IsUpTo len (Some row) = length row.suffix ≤ len

longer-up_to : (len : ℕ) (row : Row) (found : Option Row) → length row.suffix ≤ len → IsUpTo len found
    → IsUpTo len (longer row found)
longer-up_to len row None h k = h
longer-up_to len row (Some other) h k =
    elim (nat_lt (length row.suffix) (length other.suffix))
    as (λ b. IsUpTo len (cond b (Some other) (Some row))) [ true ↦ k | false ↦ h ]

up_to-wider : (m n : ℕ) (found : Option Row) → m ≤ n → IsUpTo m found → IsUpTo n found
up_to-wider m n None h k = tt
up_to-wider m n (Some row) h k = omega arith

longest-up_to : (len region : ℕ) (text : List ℕ) (rows : List Row) → IsTrue (get_no_longer len rows)
    → IsUpTo len (longest region text rows)
longest-up_to len region text [] h = tt
longest-up_to len region text (row ∷ rows) h =
    let short = le-test (length row.suffix) len
    (and-left (nat_le (length row.suffix) len) (get_no_longer (length row.suffix) rows) h) in
    let others = up_to-wider (length row.suffix) len (longest region text rows) short
    (longest-up_to (length row.suffix) region text rows
    (and-right (nat_le (length row.suffix) len) (get_no_longer (length row.suffix) rows) h)) in
    elim (ends_in region text row)
    as (λ b. IsUpTo len (cond b (longer row (longest region text rows)) (longest region text rows)))
    [ true ↦ longer-up_to len row (longest region text rows) short others | false ↦ others ]

longer-first : (row : Row) (found : Option Row) → IsUpTo (length row.suffix) found → longer row found ≡ Some row
longer-first row None h = refl
longer-first row (Some other) h =
    ap (λ b. cond b (Some other) (Some row)) (lt-fails (length row.suffix) (length other.suffix) h)

-- in rows whose suffixes get no longer the first that fits is the longest
pub longest-first : (region : ℕ) (text : List ℕ) (row : Row) (rows : List Row)
    → IsTrue (are_longest_first (row ∷ rows)) → ends_in region text row ≡ true
    → longest region text (row ∷ rows) ≡ Some row
longest-first region text row rows h e =
    ap (λ b. cond b (longer row (longest region text rows)) (longest region text rows)) e
    ∙ longer-first row (longest region text rows) (longest-up_to (length row.suffix) region text rows h)

pub longest-not : (region : ℕ) (text : List ℕ) (row : Row) (rows : List Row)
    → ends_in region text row ≡ false → longest region text (row ∷ rows) ≡ longest region text rows
longest-not region text row rows e =
    ap (λ b. cond b (longer row (longest region text rows)) (longest region text rows)) e

pub first-rest : (row : Row) (rows : List Row) → IsTrue (are_longest_first (row ∷ rows)) → IsTrue (are_longest_first rows)
first-rest row [] h = refl
first-rest row (r ∷ rows) h =
    and-right (nat_le (length r.suffix) (length row.suffix)) (get_no_longer (length r.suffix) rows) h

pub rows-at : (rows : List RowHeld) (i : ℕ) (row : RowHeld) → i < length rows → row ≡ get_or rows i row
    → map row_of (drop i rows) ≡ row_of row ∷ map row_of (drop (i + 1) rows)
rows-at rows i row h e =
    ap (map row_of) (drop_more rows i row h)
    ∙ ap (λ (r : RowHeld). row_of r ∷ map row_of (drop (i + 1) rows)) (sym e)

-- the suffix s that was taken off is that of the row
pub ends-yes : (region : ℕ) (text s front : List ℕ) (row : Row) → s ≡ row.suffix
    → bytes_eq (drop (length text - length s) text) s ≡ true → length front + length s ≡ length text
    → region ≤ length front → ends_in region text row ≡ true
ends-yes region text s front row e same len reaches =
    let t : bytes_eq (drop (length text - length row.suffix) text) row.suffix ≡ true =
    subst (λ (u : List ℕ). bytes_eq (drop (length text - length u) text) u ≡ true) e same in
    let n : length s ≡ length row.suffix = ap length e in
    let r : nat_le (region + length row.suffix) (length text) ≡ true =
    le-holds (region + length row.suffix) (length text) (omega arith) in
    ap (λ b. b && nat_le (region + length row.suffix) (length text)) t ∙ r

pub cut-at : (region : ℕ) (text front s : List ℕ) (row : Row) (rows all : List Row) (rest : List Row)
    → rest ≡ row ∷ rows → longest region text rest ≡ longest region text all → IsTrue (are_longest_first rest)
    → ends_in region text row ≡ true → s ≡ row.suffix → length front + length s ≡ length text
    → IsCutAt (longest region text all) text row.step (length front)
cut-at region text front s row rows all rest e same ordered ends is len =
    let n : length s ≡ length row.suffix = ap length is in
    let found : longest region text all ≡ Some row =
    sym same ∙ (ap (longest region text) e ∙ longest-first region text row rows
    (subst (λ (l : List Row). IsTrue (are_longest_first l)) e ordered) ends) in
    (row, found, refl, omega arith, omega arith)
