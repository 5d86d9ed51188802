-- Lines, one after the other.
use Rattle.std.proofs.Common.{◌≡◌, ◌<◌, ◌≤◌, ◌+◌, ℕ, List, [], ◌∷◌, ◌++◌, length, take, get_or, String, Global}
use Rattle.std.proofs.Common.{string_bytes, refl, sym, ap, ◌∙◌}
use Rattle.std.proofs.Common.{append_assoc}
use Rattle.std.proofs.lemmas.List.{take_more, take_all, map-append}
use Rattle.elasticlunr_text.specs.Text.{bytes_of}
use Rattle.elasticlunr_search.specs.Lines.{lines}

lines_more : (xs : List (List ℕ)) (x : List ℕ) → lines (xs ++ x ∷ []) ≡ (lines xs ++ x) ++ 10 ∷ []
lines_more [] x = refl
lines_more (y ∷ xs) x = ap (λ t. y ++ 10 ∷ t) (lines_more xs x)
    ∙ ap (λ t. y ++ 10 ∷ t) (append_assoc (lines xs) x (10 ∷ []))
    ∙ sym (append_assoc y (10 ∷ lines xs) (x ++ 10 ∷ [])) ∙ sym (append_assoc (y ++ 10 ∷ lines xs) x (10 ∷ []))

pub next_line : (ss : List (String Global)) (i : ℕ) (s : String Global) (key before after last : List ℕ) → i < length ss
    → s ≡ get_or ss i s → key ≡ string_bytes s → before ≡ lines (bytes_of (take i ss)) → after ≡ before ++ key → last
    ≡ after ++ 10 ∷ []
    → last ≡ lines (bytes_of (take (i + 1) ss))
next_line ss i s key before after last lt at is so_far more ended =
    let longer : bytes_of (take (i + 1) ss) ≡ bytes_of (take i ss) ++ key ∷ [] =
    ap bytes_of (take_more ss i s lt ∙ ap (λ y. take i ss ++ y ∷ []) (sym at))
    ∙ map-append string_bytes (take i ss) (s ∷ []) ∙ ap (λ k. bytes_of (take i ss) ++ k ∷ []) (sym is) in
    ended ∙ ap (λ t. t ++ 10 ∷ []) (more ∙ ap (λ t. t ++ key) so_far) ∙ sym (lines_more (bytes_of (take i ss)) key)
    ∙ ap lines (sym longer)

pub all_lines : (ss : List (String Global)) (i : ℕ) (text : List ℕ) → length ss ≤ i → text
    ≡ lines (bytes_of (take i ss)) → text ≡ lines (bytes_of ss)
all_lines ss i text past is = is ∙ ap (λ rs. lines (bytes_of rs)) (take_all i ss past)
