-- On a line and the line feed at its end, and on the index in a script.
use Rattle.std.proofs.Common.{◌≡◌, ◌≢◌, ◌⊎◌, ◌<◌, ◌≤◌, List, ℕ, [], ◌∷◌, ◌++◌, true, false, length, take, drop, get_or}
use Rattle.std.proofs.Common.{Option, Some, None, MatchOption, unwrap_or, Bor, refl, sym, ap, subst, ◌∙◌, inl, inr}
use Rattle.std.proofs.Common.{arith, true≢false}
use Rattle.std.proofs.lemmas.Bool.{cases_order}
use Rattle.std.proofs.lemmas.List.{drop_all}
use Rattle.elasticlunr_job_format.specs.Lines.{is_space}
use Rattle.elasticlunr_diagnostics.specs.Script.{begins_object, HasIndex, IsEnd, IsObjectStart, IsWithoutFeed}

pub without_feed : (line : Bor (List ℕ)) (cut : Option (Bor (List ℕ)))
    → MatchOption cut ((front : List ℕ) → line.now ≢ front ++ (10 ∷ [])) (λ x. line.now ≡ x.now ++ (10 ∷ []))
    → IsWithoutFeed line.now (unwrap_or cut line).now
without_feed line None none = inr (refl, none)
without_feed line (Some index) is = inl is

-- a semicolon is no white space
no_space : (b : ℕ) → b ≡ 59 → ¬ (is_space b ≡ true)
no_space b is space = true≢false (sym space ∙ ap is_space is)

-- a script ends once
pub ends_once : (text : List ℕ) (a b : ℕ) → IsEnd text a → IsEnd text b → a ≡ b
ends_once text a b one other = by (cases_order a b)
  where
    by : (a ≡ b) ⊎ ((a < b) ⊎ (b < a)) → a ≡ b
    by (inl same) = same
    by (inr (inl less)) = absurd (no_space (get_or text b 0) other.semicolon (one.behind b less other.within))
    by (inr (inr more)) = absurd (no_space (get_or text a 0) one.semicolon (other.behind a more one.within))

-- after the last byte that is no white space no script ends, nor at it where it is no semicolon
pub ends_nowhere : (text : List ℕ) (at : ℕ) → at < length text → is_space (get_or text at 0) ≡ false
    → get_or text at 0 ≢ 59
    → ((k : ℕ) → at < k → k < length text → is_space (get_or text k 0) ≡ true) → (end : ℕ) → ¬ IsEnd text end
ends_nowhere text at within filled other behind end is = by (cases_order end at)
  where
    by : (end ≡ at) ⊎ ((end < at) ⊎ (at < end)) → ⊥
    by (inl same) = other (subst (λ k. get_or text k 0 ≡ 59) same is.semicolon)
    by (inr (inl less)) = true≢false (sym (is.behind at less within) ∙ filled)
    by (inr (inr more)) = no_space (get_or text end 0) is.semicolon (behind end more is.within)

pub blank_ends_nowhere : (text : List ℕ) → ((k : ℕ) → 0 ≤ k → k < length text → is_space (get_or text k 0) ≡ true)
    → (end : ℕ) → ¬ IsEnd text end
blank_ends_nowhere text blank end is = no_space (get_or text end 0) is.semicolon (blank end (omega arith) is.within)

-- no object begins in the text, nor after it
pub starts_nowhere : (script : List ℕ) (n : ℕ) → length script ≤ n
    → ((k : ℕ) → k < n → begins_object (drop k script) ≡ false) → (start : ℕ) → ¬ IsObjectStart script start
starts_nowhere script n past none start is = by (cases_order start n)
  where
    end : length script ≤ start → ⊥
    end behind = true≢false (sym is.begins ∙ ap begins_object (drop_all start script behind))

    by : (start ≡ n) ⊎ ((start < n) ⊎ (n < start)) → ⊥
    by (inl same) = end (omega arith)
    by (inr (inl less)) = true≢false (sym is.begins ∙ none start less)
    by (inr (inr more)) = end (omega arith)

-- a text with such an end and no object before it has no index
pub has_none : (text : List ℕ) (end : ℕ) → IsEnd text end → ((start : ℕ) → ¬ IsObjectStart (take end text) start)
    → (index : List ℕ) → ¬ HasIndex text index
has_none text end is_end none index has =
    none has.start (subst (λ e. IsObjectStart (take e text) has.start) (ends_once text has.end end has.is_end is_end)
    has.is_start)
