-- Tokens in a row, one written after the other.
use Rattle.std.proofs.Common.{◌≡◌, List, [], ◌∷◌, ◌++◌, ap, ◌∙◌, append_assoc}
use Rattle.json.specs.Token.{Token}

pub four : (s a b c d : List Token) (t u v w : Token) → a ≡ s ++ t ∷ [] → b ≡ a ++ u ∷ [] → c ≡ b ++ v ∷ [] → d ≡ c ++ w
    ∷ [] → d ≡ s ++ t ∷ u ∷ v ∷ w ∷ []
four s a b c d t u v w h1 h2 h3 h4 =
    h4 ∙ ap (λ y. y ++ w ∷ []) (h3 ∙ ap (λ y. y ++ v ∷ []) (h2 ∙ ap (λ y. y ++ u ∷ []) h1)) ∙ simp append_assoc

pub five : (s a b c d e : List Token) (t u v w x : Token) → a ≡ s ++ t ∷ [] → b ≡ a ++ u ∷ [] → c ≡ b ++ v ∷ [] → d
    ≡ c ++ w ∷ [] → e ≡ d ++ x ∷ [] → e ≡ s ++ t ∷ u ∷ v ∷ w ∷ x ∷ []
five s a b c d e t u v w x h1 h2 h3 h4 h5 =
    h5 ∙ ap (λ y. y ++ x ∷ []) (h4 ∙ ap (λ y. y ++ w ∷ []) (h3 ∙ ap (λ y. y ++ v ∷ []) (h2 ∙ ap (λ y. y ++ u ∷ []) h1)))
    ∙ simp append_assoc

-- three tokens, the members and the end of an object
pub framed : (s a b c d e ms : List Token) (t u v w : Token) → a ≡ s ++ t ∷ [] → b ≡ a ++ u ∷ [] → c ≡ b ++ v ∷ [] → d
    ≡ c ++ ms → e ≡ d ++ w ∷ [] → e ≡ s ++ t ∷ u ∷ v ∷ (ms ++ w ∷ [])
framed s a b c d e ms t u v w h1 h2 h3 h4 h5 =
    h5 ∙ ap (λ y. y ++ w ∷ []) (h4 ∙ ap (λ y. y ++ ms) (h3 ∙ ap (λ y. y ++ v ∷ []) (h2 ∙ ap (λ y. y ++ u ∷ []) h1)))
    ∙ simp append_assoc

-- six lists of tokens in a row
pub six : (s a b c d e f t1 t2 t3 t4 t5 t6 : List Token) → a ≡ s ++ t1 → b ≡ a ++ t2 → c ≡ b ++ t3 → d ≡ c ++ t4 → e
    ≡ d ++ t5 → f ≡ e ++ t6 → f ≡ s ++ (t1 ++ (t2 ++ (t3 ++ (t4 ++ (t5 ++ t6)))))
six s a b c d e f t1 t2 t3 t4 t5 t6 h1 h2 h3 h4 h5 h6 =
    h6 ∙ ap (λ y. y ++ t6) (h5 ∙ ap (λ y. y ++ t5)
    (h4 ∙ ap (λ y. y ++ t4) (h3 ∙ ap (λ y. y ++ t3) (h2 ∙ ap (λ y. y ++ t2) h1)))) ∙ simp append_assoc
