-- The boosts that are given.
use Rattle.std.proofs.Common.{◌≡◌, ◌<◌, ◌≤◌, ◌+◌, ℕ, List, [], ◌∷◌, length, take, get_or, Some, cond}
use Rattle.std.proofs.Common.{ap, ◌∙◌}
use Rattle.std.proofs.lemmas.List.{reverse-append, take_all, take_more}
use Rattle.std.specs.Borrow.{Bor}
use Rattle.std.specs.Map.{lookup}
use Rattle.std.specs.Str.{bytes_eq}
use Rattle.elasticlunr_text.specs.Text.{Bytes}
use Rattle.elasticlunr_hits.specs.Asked.{last_boost}

-- one more boost
pub boost_more : (boosts : List (Bor Bytes × ℕ)) (i : ℕ) (d : Bor Bytes × ℕ) (name : Bytes) → i < length boosts
    → last_boost (take (i + 1) boosts) name
    ≡ cond (bytes_eq (get_or boosts i d).0.now name) (Some (get_or boosts i d).1) (last_boost (take i boosts) name)
boost_more boosts i d name lt =
    ap (λ bs. last_boost bs name) (take_more boosts i d lt)
    ∙ ap (lookup (λ field. bytes_eq field.now name)) (reverse-append (take i boosts) (get_or boosts i d ∷ []))

pub all_boosts : (boosts : List (Bor Bytes × ℕ)) (i : ℕ) (name : Bytes) → length boosts ≤ i
    → last_boost (take i boosts) name ≡ last_boost boosts name
all_boosts boosts i name past = ap (λ bs. last_boost bs name) (take_all i boosts past)
