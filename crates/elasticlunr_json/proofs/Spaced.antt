-- A reader finds in an indented text the tokens that it was printed of.
use Rattle.std.proofs.Common.{◌≡◌, ℕ, zero, suc, ◌*◌, List, [], ◌∷◌, ◌++◌, map, Bool, true, false, if◌then◌else◌, inl}
use Rattle.std.proofs.Common.{inr, refl, sym, ap, ◌∙◌, subst, append_assoc}
use Rattle.std.proofs.Math.ListN.{replicate}
use Rattle.json.specs.Token.{Token, begin_object, end_object, begin_array, end_array, key, string, number, boolean}
use Rattle.json.specs.Token.{null, bad}
use Rattle.json.specs.Lex.{tokens}
use Rattle.json.specs.Print.{token_text, separator, begins, ends, ArePrintable}
use Rattle.json.specs.Layout.{Last, nothing, bracket, name, value, is_value, line, gap, depth_at, after, step, piece}
use Rattle.json.specs.Layout.{pretty, pretty_from}
use Rattle.json.specs.Spaced.{IsGap, AreGaps, print_spaced}
use Rattle.json.proofs.Printed.Tokens.{tokens-print_spaced}

spaces : (n : ℕ) → IsGap (replicate n 32)
spaces zero = tt
spaces (suc n) = (inl refl, spaces n)

line_is_gap : (depth : ℕ) → IsGap (line depth)
line_is_gap depth = (inr refl, spaces (2 * depth))

line_or_none : (opens : Bool) (depth : ℕ) → IsGap (if opens then line depth else [])
line_or_none true depth = line_is_gap depth
line_or_none false depth = tt

gap_is_gap : (last : Last) (opens : Bool) (depth : ℕ) → IsGap (gap last opens depth)
gap_is_gap nothing opens depth = tt
gap_is_gap bracket opens depth = line_or_none opens depth
gap_is_gap name opens depth = (inl refl, tt)
gap_is_gap value opens depth = line_is_gap depth

-- each token with the gap that stands before it
spaced : Last × ℕ → List Token → List (List ℕ × Token)
spaced s [] = []
spaced s (t ∷ ts) = (gap s.0 (begins t) (depth_at s.1 t), t) ∷ spaced (step s t) ts

are_gaps : (s : Last × ℕ) (ts : List Token) → AreGaps (spaced s ts)
unfolding spaced
are_gaps s [] = tt
are_gaps s (t ∷ ts) = (gap_is_gap s.0 (begins t) (depth_at s.1 t), are_gaps (step s t) ts)

are_tokens : (s : Last × ℕ) (ts : List Token) → map (λ p. p.1) (spaced s ts) ≡ ts
unfolding spaced
are_tokens s [] = refl
are_tokens s (t ∷ ts) = ap (λ us. t ∷ us) (are_tokens (step s t) ts)

-- a comma stands where the layout writes one
after_value : (t : Token) (depth : ℕ) → is_value (after t depth).0 ≡ ends t
after_value begin_object depth = refl
after_value end_object depth = refl
after_value begin_array depth = refl
after_value end_array depth = refl
after_value (key s) depth = refl
after_value (string s) depth = refl
after_value (number s) depth = refl
after_value (boolean b) depth = refl
after_value null depth = refl
after_value bad depth = refl

joined : (a b c d : List ℕ) → (a ++ (b ++ c)) ++ d ≡ a ++ (b ++ (c ++ d))
joined a b c d = append_assoc a (b ++ c) d ∙ ap (λ l. a ++ l) (append_assoc b c d)

print_spaced-spaced : (s : Last × ℕ) (ts : List Token) → pretty_from s ts ≡ print_spaced (is_value s.0) (spaced s ts)
unfolding spaced pretty_from print_spaced
print_spaced-spaced s [] = refl
print_spaced-spaced s (t ∷ ts) =
    let before = separator (is_value s.0) t in
    let space = gap s.0 (begins t) (depth_at s.1 t) in
    ap (λ l. piece s t ++ l) (print_spaced-spaced (step s t) ts ∙ ap (λ b. print_spaced b (spaced (step s t) ts))
    (after_value t (depth_at s.1 t)))
    ∙ joined before space (token_text t) (print_spaced (ends t) (spaced (step s t) ts))

pub tokens-pretty : (ts : List Token) → ArePrintable ts → tokens (pretty ts) ≡ ts
tokens-pretty ts printable =
    let ps = spaced (nothing, 0) ts in
    let are = are_tokens (nothing, 0) ts in
    ap tokens (print_spaced-spaced (nothing, 0) ts) ∙ tokens-print_spaced ps (are_gaps (nothing, 0) ts)
    (subst ArePrintable (sym are) printable) ∙ are
