-- Names among those of fields, and titles among others.
use Rattle.std.proofs.Common.{◌≡◌, ◌<◌, ◌+◌, ℕ, zero, suc, Bool, true, false, true≢false, ◌||◌, List, [], ◌∷◌, map, drop, length, get_or}
use Rattle.std.proofs.Common.{String, Global, string_bytes, bytes_eq, refl, sym, ap, ◌∙◌, arith}
use Rattle.std.specs.Borrow.{Bor}
use Rattle.serde_json.specs.Data.{string}
use Rattle.serde_json.specs.Written.{compact_text}
use Rattle.elasticlunr_error.specs.Text.{Bytes, is_listed}
use Rattle.elasticlunr_pieces.specs.EntryTexts.{title_texts}
use Rattle.elasticlunr_pieces.specs.Numbers.{told_texts}

step : (x : Bytes) (v : List (String Global)) (i : ℕ) (s : String Global) → i < length v → s ≡ get_or v i s
    → is_listed x (map string_bytes (drop i v))
    ≡ (bytes_eq x (string_bytes s) || is_listed x (map string_bytes (drop (suc i) v)))
step x [] i s lt is = absurd (omega (arith, lt))
step x (y ∷ ys) zero s lt is = ap (λ b. b || is_listed x (map string_bytes ys)) (ap (λ z. bytes_eq x (string_bytes z)) (sym is))
step x (y ∷ ys) (suc i) s lt is = step x ys i s (omega (arith, lt)) is

pub next_name : (x : Bytes) (v : List (String Global)) (i : ℕ) (s : String Global) → i < length v → s ≡ get_or v i s
    → is_listed x (map string_bytes (drop i v))
    ≡ (bytes_eq x (string_bytes s) || is_listed x (map string_bytes (drop (i + 1) v)))
next_name x v i s lt is = let e : suc i ≡ i + 1 = omega arith in step x v i s lt is
    ∙ ap (λ n. bytes_eq x (string_bytes s) || is_listed x (map string_bytes (drop n v))) e

pub is_here : (b rest : Bool) → b ≡ true → (b || rest) ≡ true
is_here true rest h = refl
is_here false rest h = absurd (true≢false (sym h))

pub not_here : (b rest : Bool) → b ≡ false → (b || rest) ≡ rest
not_here true rest h = absurd (true≢false h)
not_here false rest h = refl

pub title_at : (titles : List (Bor Bytes)) (n : ℕ) (d : Bor Bytes) → n < length (title_texts (told_texts titles))
    → get_or (title_texts (told_texts titles)) n [] ≡ compact_text (string (get_or titles n d).now)
title_at [] n d lt = absurd (omega (arith, lt))
title_at (t ∷ ts) zero d lt = refl
title_at (t ∷ ts) (suc n) d lt = title_at ts n d (omega (arith, lt))
