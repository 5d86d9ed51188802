-- A reader that may go deeper reads the same.
use Rattle.std.proofs.Common.{◌≡◌, ℕ, zero, suc, ◌≤◌, List, [], ◌∷◌, length, Option, Some, None, option_and_then, ap}
use Rattle.std.proofs.Common.{◌∙◌, refl, arith}
use Rattle.json.specs.Token.{Token}
use Rattle.json.specs.Json.{Json, array, object, Items, item, Members, member, Parse, parse_map, after_end_array}
use Rattle.json.specs.Json.{read_key, items_step, members_step, items, members, value_with, value}

-- what the one gives, the other gives
abbrev Gives : {A : Type 0} → Option A → Option A → Type 0
Gives {A} o p = (a : A) → o ≡ Some a → p ≡ Some a

abbrev Extends : {A : Type 0} → Parse A → Parse A → Type 0
Extends p q = (ts : List Token) → Gives (p ts) (q ts)

mapped : {A B : Type 0} (h : A → B) (o p : Option (A × List Token)) → Gives o p → Gives (parse_map h o) (parse_map h p)
mapped h None p more b e = absurd (cc)
mapped h (Some a) p more b e = ap (parse_map h) (more a refl) ∙ e

chained : {A B : Type 0} (f g : A → Option B) (o p : Option A) → Gives o p → ((a : A) → Gives (f a) (g a))
    → Gives (option_and_then f o) (option_and_then g p)
chained f g None p more then b e = absurd (cc)
chained f g (Some a) p more then b e = ap (option_and_then g) (more a refl) ∙ then a b e

module _ (p q : Parse Json) (deeper : Extends p q) where
  item_turn : (m n : Parse Items) → Extends m n → (ts : List Token) (o : Option (List Token))
      → Gives (items_step p m ts o) (items_step q n ts o)
  item_turn m n more ts (Some rest) a e = e
  item_turn m n more ts None a e = chained _ _ (p ts) (q ts) (deeper ts)
      (λ r. mapped (item r.0) (m r.1) (n r.1) (more r.1)) a e

  items_deeper : (n : ℕ) → Extends (items p n) (items q n)
  unfolding items
  items_deeper zero ts a e = absurd (cc)
  items_deeper (suc n) ts a e = item_turn (items p n) (items q n) (items_deeper n) ts (after_end_array ts) a e

  member_turn : (m n : Parse Members) → Extends m n → (o : Option (Option (List ℕ) × List Token))
      → Gives (option_and_then (λ r. members_step p m r.0 r.1) o) (option_and_then (λ r. members_step q n r.0 r.1) o)
  member_turn m n more None a e = e
  member_turn m n more (Some (None, ts)) a e = e
  member_turn m n more (Some (Some k, ts)) a e = chained _ _ (p ts) (q ts) (deeper ts)
      (λ r. mapped (member k r.0) (m r.1) (n r.1) (more r.1)) a e

  members_deeper : (n : ℕ) → Extends (members p n) (members q n)
  unfolding members
  members_deeper zero ts a e = absurd (cc)
  members_deeper (suc n) ts a e = member_turn (members p n) (members q n) (members_deeper n) (read_key ts) a e

one_level : (a b : Parse Items) (o p : Parse Members) → Extends a b → Extends o p
    → Extends (value_with a o) (value_with b p)
one_level a b o p arrays objects [] r e = e
one_level a b o p arrays objects (Token.begin_object ∷ ts) r e = mapped object (o ts) (p ts) (objects ts) r e
one_level a b o p arrays objects (Token.end_object ∷ ts) r e = e
one_level a b o p arrays objects (Token.begin_array ∷ ts) r e = mapped array (a ts) (b ts) (arrays ts) r e
one_level a b o p arrays objects (Token.end_array ∷ ts) r e = e
one_level a b o p arrays objects (Token.key s ∷ ts) r e = e
one_level a b o p arrays objects (Token.string s ∷ ts) r e = e
one_level a b o p arrays objects (Token.number s ∷ ts) r e = e
one_level a b o p arrays objects (Token.boolean c ∷ ts) r e = e
one_level a b o p arrays objects (Token.null ∷ ts) r e = e
one_level a b o p arrays objects (Token.bad ∷ ts) r e = e

nothing_read : {A : Type 0} (q : Parse A) → Extends (λ ts. None) q
nothing_read q ts a e = absurd (cc)

-- what is read at most d deep is read at most e deep, too
pub value_deeper : (d e : ℕ) → d ≤ e → Extends (value d) (value e)
unfolding value
value_deeper zero zero h = λ ts a e. e
value_deeper zero (suc e) h = one_level _ _ _ _ (nothing_read _) (nothing_read _)
value_deeper (suc d) zero h = absurd (omega arith)
value_deeper (suc d) (suc e) h =
    let deeper = value_deeper d e (omega arith) in
    one_level _ _ _ _ (λ ts. items_deeper (value d) (value e) deeper (length ts) ts)
    (λ ts. members_deeper (value d) (value e) deeper (length ts) ts)
