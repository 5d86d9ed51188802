-- The rows that may end a text are enough to find the longest suffix.
use Rattle.std.proofs.Common.{◌≡◌, ℕ, ◌-◌, ◌≤◌, Bool, true, false, IsTrue, List, [], ◌∷◌, ◌++◌, length, take, drop, reverse, cond, refl, sym, ◌∙◌, ap, subst, arith}
use Rattle.std.specs.Prelude.{◌&&◌, nat_le, bytes_eq}
use Rattle.std.specs.List.{filter}
use Rattle.std.proofs.lemmas.List.{reverse-append, take-append-drop}
use Rattle.std.proofs.lemmas.Slice.Eq.{bytes_eq-Decides}
use Rattle.elasticlunr_stems.specs.Tables.{Row}
use Rattle.elasticlunr_stems.specs.Stems.{longest, longer, ends_in}
use Rattle.elasticlunr_stems.specs.Safe.{get_no_longer, are_longest_first}
use Rattle.elasticlunr_stems.specs.RowViews.{begins_in, may_end}
use Rattle.elasticlunr_stems.proofs.BoolLemmas.{and-left, and-right, le-test, le-holds, false≢true}

narrower : (m n : ℕ) (rows : List Row) → m ≤ n → IsTrue (get_no_longer m rows) → IsTrue (get_no_longer n rows)
narrower m n [] h k = refl
narrower m n (row ∷ rows) h k =
    let first = le-test (length row.suffix) m (and-left (nat_le (length row.suffix) m) (get_no_longer (length row.suffix) rows) k) in
    ap (λ b. b && get_no_longer (length row.suffix) rows) (le-holds (length row.suffix) n (omega arith))
    ∙ and-right (nat_le (length row.suffix) m) (get_no_longer (length row.suffix) rows) k

kept-in-order : (p : Row → Bool) (n : ℕ) (rows : List Row) → IsTrue (get_no_longer n rows)
    → IsTrue (get_no_longer n (filter p rows))
kept-in-order p n [] h = refl
kept-in-order p n (row ∷ rows) h =
    let first = and-left (nat_le (length row.suffix) n) (get_no_longer (length row.suffix) rows) h in
    let rest = kept-in-order p (length row.suffix) rows
    (and-right (nat_le (length row.suffix) n) (get_no_longer (length row.suffix) rows) h) in
    elim (p row) as (λ b. IsTrue (get_no_longer n (cond b (row ∷ filter p rows) (filter p rows)))) [
      | true ↦ ap (λ b. b && get_no_longer (length row.suffix) (filter p rows)) first ∙ rest
      | false ↦ narrower (length row.suffix) n (filter p rows) (le-test (length row.suffix) n first) rest
    ]

first-in-order : (n : ℕ) (rows : List Row) → IsTrue (get_no_longer n rows) → IsTrue (are_longest_first rows)
first-in-order n [] h = refl
first-in-order n (row ∷ rows) h = and-right (nat_le (length row.suffix) n) (get_no_longer (length row.suffix) rows) h

-- rows that get no longer get no longer without some of them
pub filter-ordered : (p : Row → Bool) (rows : List Row) → IsTrue (are_longest_first rows)
    → IsTrue (are_longest_first (filter p rows))
filter-ordered p [] h = refl
filter-ordered p (row ∷ rows) h =
    let rest = kept-in-order p (length row.suffix) rows h in
    elim (p row) as (λ b. IsTrue (are_longest_first (cond b (row ∷ filter p rows) (filter p rows)))) [
      | true ↦ rest
      | false ↦ first-in-order (length row.suffix) (filter p rows) rest
    ]

begins-before : (number : ℕ) (s t : List ℕ) → begins_in number (s ++ t) ≡ true → begins_in number s ≡ true
begins-before number [] t h = refl
begins-before number (c ∷ []) t h = refl
begins-before number (c ∷ d ∷ cs) t h = h

-- a text ends only with a suffix that may end it
may-end-if : (number region : ℕ) (text : List ℕ) (row : Row) → begins_in number (reverse text) ≡ true
    → ends_in region text row ≡ true → may_end number row ≡ true
may-end-if number region text row h e =
    let k = length text - length row.suffix in
    let same : drop k text ≡ row.suffix =
    (bytes_eq-Decides (drop k text) row.suffix).0
    (and-left (bytes_eq (drop k text) row.suffix) _ e) in
    let split : take k text ++ row.suffix ≡ text =
    ap (λ (s : List ℕ). take k text ++ s) (sym same) ∙ take-append-drop k text in
    let back : reverse text ≡ reverse row.suffix ++ reverse (take k text) =
    ap (λ (s : List ℕ). reverse s) (sym split) ∙ reverse-append (take k text) row.suffix in
    begins-before number (reverse row.suffix) (reverse (take k text))
    (subst (λ (s : List ℕ). begins_in number s ≡ true) back h)

not-both : (a b : Bool) → (a ≡ true → b ≡ true) → b ≡ false → a ≡ false
not-both true b f h = absurd (false≢true (sym h ∙ f refl))
not-both false b f h = refl

pub longest-filter : (number region : ℕ) (text : List ℕ) (rows : List Row) → begins_in number (reverse text) ≡ true
    → longest region text (filter (may_end number) rows) ≡ longest region text rows
longest-filter number region text [] h = refl
longest-filter number region text (row ∷ rows) h =
    let rest = longest-filter number region text rows h in
    let P : Bool → Type 0 = λ b. b ≡ may_end number row
    → longest region text (cond b (row ∷ filter (may_end number) rows) (filter (may_end number) rows))
    ≡ longest region text (row ∷ rows) in
    let both : (b : Bool) → P b = λ b. elim b as P [
      | true ↦ λ e. ap (λ found. cond (ends_in region text row) (longer row found) found) rest
      | false ↦ λ e. rest ∙ sym (ap (λ c. cond c (longer row (longest region text rows)) (longest region text rows))
          (not-both (ends_in region text row) (may_end number row) (may-end-if number region text row h) (sym e)))
    ] in
    both (may_end number row) refl
