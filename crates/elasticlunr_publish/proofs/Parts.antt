-- What is left of bytes without their beginning or their end.
use Rattle.std.proofs.Common.{◌≡◌, ◌≢◌, ◌+◌, ◌-◌, ℕ, true, false, true≢false, List, ◌++◌, length, take, drop}
use Rattle.std.proofs.Common.{Option, Some, None, Bor, bytes_eq, sym, ap, ◌∙◌, arith, length-append}
use Rattle.std.specs.Prelude.{IfSome, IfNone}
use Rattle.std.specs.Option.{MatchOption}
use Rattle.std.proofs.lemmas.Slice.Eq.{bytes_eq-Decides}
use Rattle.std.proofs.lemmas.List.{take-append-drop}
use Rattle.std.proofs.Math.Seq.{drop-append_seam, take-append_seam}

-- what `strip_prefix` says
abbrev StripsFront : Option (Bor (List ℕ)) → List ℕ → List ℕ → Type 0
StripsFront found front bytes = MatchOption found (bytes_eq (take (length front) bytes) front ≡ false)
    (λ x. (bytes_eq (take (length front) bytes) front ≡ true) × (x.now ≡ drop (length front) bytes)
    × (length x.now + length front ≡ length bytes))

pub front_some : (found : Option (Bor (List ℕ))) (front bytes : List ℕ)
    → StripsFront found front bytes → IfSome found (λ rest. bytes ≡ front ++ rest.now)
front_some None front bytes h = tt
front_some (Some x) front bytes h = sym (take-append-drop (length front) bytes)
    ∙ (ap (λ t. t ++ drop (length front) bytes) ((bytes_eq-Decides (take (length front) bytes) front).0 h.0)
    ∙ ap (λ d. front ++ d) (sym h.1))

pub front_none : (found : Option (Bor (List ℕ))) (front bytes : List ℕ)
    → StripsFront found front bytes → IfNone found ((rest : List ℕ) → bytes ≢ front ++ rest)
front_none None front bytes h = λ rest e. true≢false
    (sym ((bytes_eq-Decides (take (length front) bytes) front).1
    (ap (take (length front)) e ∙ take-append_seam front rest)) ∙ h)
front_none (Some x) front bytes h = tt

-- what `strip_suffix` says
abbrev StripsBack : Option (Bor (List ℕ)) → List ℕ → List ℕ → Type 0
StripsBack found back bytes =
    MatchOption found (bytes_eq (drop (length bytes - length back) bytes) back ≡ false)
    (λ x. (bytes_eq (drop (length bytes - length back) bytes) back ≡ true)
    × (x.now ≡ take (length bytes - length back) bytes)
    × (length x.now + length back ≡ length bytes))

pub back_some : (found : Option (Bor (List ℕ))) (back bytes : List ℕ)
    → StripsBack found back bytes → IfSome found (λ rest. bytes ≡ rest.now ++ back)
back_some None back bytes h = tt
back_some (Some x) back bytes h = let n = length bytes - length back in
    sym (take-append-drop n bytes)
    ∙ (ap (λ d. take n bytes ++ d) ((bytes_eq-Decides (drop n bytes) back).0 h.0)
    ∙ ap (λ t. t ++ back) (sym h.1))

many : (back bytes rest : List ℕ) → bytes ≡ rest ++ back
    → length bytes - length back ≡ length rest
many back bytes rest e = grind (arith, length-append)

pub back_none : (found : Option (Bor (List ℕ))) (back bytes : List ℕ)
    → StripsBack found back bytes → IfNone found ((rest : List ℕ) → bytes ≢ rest ++ back)
back_none None back bytes h = λ rest e. true≢false
    (sym ((bytes_eq-Decides (drop (length bytes - length back) bytes) back).1
    (ap (λ n. drop n bytes) (many back bytes rest e)
    ∙ (ap (drop (length rest)) e ∙ drop-append_seam rest back))) ∙ h)
back_none (Some x) back bytes h = tt
