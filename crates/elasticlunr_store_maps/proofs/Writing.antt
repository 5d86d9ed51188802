-- A member more is written.
use Rattle.std.proofs.Common.{◌≡◌, List, [], ◌∷◌, ◌++◌, ap, ◌∙◌, append_assoc}
use Rattle.json.specs.Token.{Token}

-- what was written and what is left are the same together when a key and its value have been written
pub one_more : (before keyed after rest total v : List Token) (k : Token) → after ≡ keyed ++ v → keyed ≡ before ++ k
    ∷ [] → before ++ (k ∷ (v ++ rest)) ≡ total → after ++ rest ≡ total
one_more before keyed after rest total v k value key is =
    ap (λ ts. ts ++ rest) (value ∙ ap (λ ts. ts ++ v) key)
    ∙ (append_assoc (before ++ k ∷ []) v rest ∙ (append_assoc before (k ∷ []) (v ++ rest) ∙ is))
