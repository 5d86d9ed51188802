-- Names among those of fields.
use Rattle.std.proofs.Common.{◌≡◌, ◌<◌, ◌+◌, ℕ, zero, suc, Bool, true, false, true≢false, ◌||◌, List, [], ◌∷◌, drop, length, get_or}
use Rattle.std.proofs.Common.{String, Global, string_bytes, bytes_eq, refl, sym, ap, ◌∙◌, arith}
use Rattle.elasticlunr_error.specs.Text.{Bytes, bytes_of}
use Rattle.elasticlunr_commands.specs.Fields.{has_name}

step : (x : Bytes) (v : List (String Global)) (i : ℕ) (s : String Global) → i < length v → s ≡ get_or v i s
    → has_name x (bytes_of (drop i v)) ≡ (bytes_eq (string_bytes s) x || has_name x (bytes_of (drop (suc i) v)))
step x [] i s lt is = absurd (omega (arith, lt))
step x (y ∷ ys) zero s lt is = ap (λ b. b || has_name x (bytes_of ys)) (ap (λ z. bytes_eq (string_bytes z) x) (sym is))
step x (y ∷ ys) (suc i) s lt is = step x ys i s (omega (arith, lt)) is

pub next_name : (x : Bytes) (v : List (String Global)) (i : ℕ) (s : String Global) → i < length v → s ≡ get_or v i s
    → has_name x (bytes_of (drop i v)) ≡ (bytes_eq (string_bytes s) x || has_name x (bytes_of (drop (i + 1) v)))
next_name x v i s lt is = let e : suc i ≡ i + 1 = omega arith in step x v i s lt is
    ∙ ap (λ n. bytes_eq (string_bytes s) x || has_name x (bytes_of (drop n v))) e

pub is_here : (b rest : Bool) → b ≡ true → (b || rest) ≡ true
is_here true rest h = refl
is_here false rest h = absurd (true≢false (sym h))

pub not_here : (b rest : Bool) → b ≡ false → (b || rest) ≡ rest
not_here true rest h = absurd (true≢false h)
not_here false rest h = refl
