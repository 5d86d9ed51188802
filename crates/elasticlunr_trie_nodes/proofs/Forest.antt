-- Where the paths of a forest of numbered nodes lead.
use Rattle.std.proofs.lemmas.Bool.{cases_eq, cases_lt}
use Rattle.std.proofs.Common.{◌≡◌, ◌≢◌, ◌⊎◌, inl, inr, ℕ, suc, ◌+◌, ◌<◌, ◌≤◌, [], ◌∷◌, ◌++◌, length, Option, Some, None}
use Rattle.std.proofs.Common.{option_map, option_and_then, refl, sym, ap, subst, ◌∙◌, arith, append-nil, append_assoc}
use Rattle.std.proofs.Common.{add-zero, le_refl}
use Rattle.elasticlunr_error.specs.Text.{Text}
use Rattle.elasticlunr_trie_nodes.specs.Trie.{rank, Step, walk, IsForest, HaveOneParent}
use Rattle.elasticlunr_trie_nodes.specs.declared.nodes.Place.{Place}
use Rattle.elasticlunr_trie_nodes.specs.declared.nodes.Place.TheVariants.{Root, At}

-- what an answer says of the steps before it
pub then_some : {A B : Type 0} (o : Option A) (f : A → Option B) (y : B) → option_and_then f o ≡ Some y → (x : A)
    × (o ≡ Some x) × (f x ≡ Some y)
then_some None f y e = absurd (cc)
then_some (Some x) f y e = (x, refl, e)

-- two places are one, or they differ
pub same_place : (p q : Place) → (p ≡ q) ⊎ (p ≢ q)
same_place Root Root = inl refl
same_place Root (At k) = inr (λ e. cc)
same_place (At j) Root = inr (λ e. cc)
same_place (At j) (At k) = elim (cases_eq j k) [ inl e ↦ inl (ap At e) | inr other ↦ inr (λ e. other (cc)) ]

-- a fact of each text, by its last character
pub by_last : (P : Text → Type 0) → P [] → ((t : Text) (c : ℕ) → P t → P (t ++ c ∷ [])) → (t : Text) → P t
by_last P none more t = from [] none t
  where
    from : (front : Text) → P front → (rest : Text) → P (front ++ rest)
    from front h [] = subst P (sym (append-nil front)) h
    from front h (c ∷ rest) = subst P (append_assoc front (c ∷ []) rest) (from (front ++ c ∷ []) (more front c h) rest)

module _ (step : Step) where
  -- one step of a path, and the rest
  pub walk_cons : (p q : Place) (c : ℕ) (t : Text) → walk step p (c ∷ t) ≡ Some q → (k : ℕ) × (step p c ≡ Some k)
      × (walk step (At k) t ≡ Some q)
  walk_cons p q c t e = then_some (step p c) (λ k. walk step (At k) t) q e

  pub walk_on : (p : Place) (c k : ℕ) (t : Text) → step p c ≡ Some k → walk step p (c ∷ t) ≡ walk step (At k) t
  walk_on p c k t e = ap (option_and_then (λ j. walk step (At j) t)) e

  pub walk_off : (p : Place) (c : ℕ) (t : Text) → step p c ≡ None → walk step p (c ∷ t) ≡ None
  walk_off p c t e = ap (option_and_then (λ j. walk step (At j) t)) e

  -- the last step of a path
  abbrev pub last_step : ℕ → Place → Option Place
  last_step c q = option_map At (step q c)

  pub walk_push : (t : Text) (p : Place) (c : ℕ) → walk step p (t ++ c ∷ [])
      ≡ option_and_then (last_step c) (walk step p t)
  walk_push [] p c = through (step p c)
    where
      through : (o : Option ℕ) → option_and_then (λ k. Some (At k)) o ≡ option_map At o
      through None = refl
      through (Some k) = refl
  walk_push (d ∷ t) p c = through (λ k. walk_push t (At k) c) (step p d)
    where
      through : ((k : ℕ) → walk step (At k) (t ++ c ∷ []) ≡ option_and_then (last_step c) (walk step (At k) t))
          → (o : Option ℕ)
          → option_and_then (λ k. walk step (At k) (t ++ c ∷ [])) o
          ≡ option_and_then (last_step c) (option_and_then (λ k. walk step (At k) t) o)
      through same None = refl
      through same (Some k) = same k

  -- the last step of a path that leads somewhere
  pub walk_last : (t : Text) (c : ℕ) (p q : Place) → walk step p (t ++ c ∷ []) ≡ Some q → (m : Place) × (k : ℕ)
      × (walk step p t ≡ Some m) × (step m c ≡ Some k) × (q ≡ At k)
  walk_last t c p q e =
      let before = then_some (walk step p t) (last_step c) q (sym (walk_push t p c) ∙ e) in
      let number = mapped (step before.0 c) q before.2 in
      (before.0, number.0, before.1, number.1, number.2)
    where
      mapped : (o : Option ℕ) (q : Place) → option_map At o ≡ Some q → (k : ℕ) × (o ≡ Some k) × (q ≡ At k)
      mapped None q e = absurd (cc)
      mapped (Some k) q e = (k, refl, (cc))

  pub walk_to : (t : Text) (c k : ℕ) (p m : Place) → walk step p t ≡ Some m → step m c ≡ Some k
      → walk step p (t ++ c ∷ []) ≡ Some (At k)
  walk_to t c k p m e f = walk_push t p c ∙ ap (option_and_then (last_step c)) e ∙ ap (option_map At) f

  -- a path goes on from where its front leads
  pub walk_after : (front t : Text) (q p : Place) → walk step q front ≡ Some p → walk step q (front ++ t)
      ≡ walk step p t
  walk_after [] t q p e = let same : q ≡ p = (cc) in ap (λ x. walk step x t) same
  walk_after (c ∷ front) t q p e =
      let at = walk_cons q p c front e in
      walk_on q c at.0 (front ++ t) at.1 ∙ walk_after front t (At at.0) p at.2

  -- a text whose path leads somewhere has only such prefixes
  pub walk_front : (t rest : Text) (p q : Place) → walk step p (t ++ rest) ≡ Some q → (m : Place)
      × (walk step p t ≡ Some m)
  walk_front [] rest p q e = (p, refl)
  walk_front (c ∷ t) rest p q e =
      let at = walk_cons p q c (t ++ rest) e in
      let more = walk_front t rest (At at.0) q at.2 in
      (more.0, walk_on p c at.0 t at.1 ∙ more.1)

module _ (step : Step) (n : ℕ) (forest : IsForest step n) where
  -- each character leads to a higher number
  pub rises : (t : Text) (p q : Place) → walk step p t ≡ Some q → rank p + length t ≤ rank q
  rises [] p q e =
      let same : p ≡ q = cc in
      subst (λ x. rank p + 0 ≤ rank x) same (omega arith)
  rises (c ∷ t) p q e =
      let at = walk_cons step p q c t e in
      let rest = rises t (At at.0) q at.2 in
      let up = forest.higher p c at.0 at.1 in
      omega arith

  pub within : (t : Text) (p q : Place) → rank p ≤ n → walk step p t ≡ Some q → rank q ≤ n
  within [] p q low e =
      let same : p ≡ q = cc in
      subst (λ x. rank x ≤ n) same low
  within (c ∷ t) p q low e =
      let at = walk_cons step p q c t e in
      within t (At at.0) q (forest.is_node p c at.0 at.1) at.2

  -- a place has one path
  pub one_path : (s t : Text) (p : Place) → walk step Root s ≡ Some p → walk step Root t ≡ Some p → s ≡ t
  one_path s = by_last (λ u. (t : Text) (p : Place) → walk step Root u ≡ Some p → walk step Root t ≡ Some p → u ≡ t)
      (λ t p here there. by_last (λ u. walk step Root u ≡ Some p → [] ≡ u) (λ _. refl)
      (λ u d _ e. let last = walk_last step u d Root p e in let up : p ≡ At last.1 = last.4 in absurd (cc)) t there)
      (λ u c same t p here there. by_last (λ v. walk step Root v ≡ Some p → u ++ c ∷ [] ≡ v)
      (λ e. let last = walk_last step u c Root p here in let up : p ≡ At last.1 = last.4 in absurd (cc))
      (λ v d _ e.
      let one = walk_last step u c Root p here in
      let two = walk_last step v d Root p e in
      let number : one.1 ≡ two.1 = let a : p ≡ At one.1 = one.4 in let b : p ≡ At two.1 = two.4 in (cc) in
      let into : step two.0 d ≡ Some one.1 = two.3 ∙ ap Some (sym number) in
      let place = forest.one_parent one.0 two.0 c d one.1 one.3 into in
      let letter = forest.one_character one.0 two.0 c d one.1 one.3 into in
      let front = same v one.0 one.2 (two.2 ∙ ap Some (sym place)) in
      λ i. front i ++ letter i ∷ []) t there) s

-- each of n nodes is a child
abbrev pub AreChildren : Step → ℕ → Type 0
AreChildren step n = (k : ℕ) → k < n → (p : Place) × (c : ℕ) × (step p c ≡ Some k)

-- in a forest this is the same as having one parent
pub children_from : (step : Step) (n : ℕ) → HaveOneParent step n → AreChildren step n
children_from step n parents k lt = let one = parents k lt in (one.parent, one.character, one.is_child)

pub one_parent_each : (step : Step) (n m : ℕ) → IsForest step m → AreChildren step n → HaveOneParent step n
one_parent_each step n m forest are k lt =
    let child = are k lt in
    record {
      parent = child.0;
      character = child.1;
      is_child = child.2;
      lower = forest.higher child.0 child.1 k child.2;
      only = λ q d e. (
        forest.one_parent q child.0 d child.1 k e child.2,
        forest.one_character q child.0 d child.1 k e
            child.2,
      );
    }

-- `to` is `from`, with the value_of k of the place p under the character c
pub record Attaches (from to : Step) (p : Place) (c k : ℕ) : Type 0 where
  pub here : to p c ≡ Some k
  pub other_place : (q : Place) (d : ℕ) → q ≢ p → to q d ≡ from q d
  pub other_character : (q : Place) (d : ℕ) → d ≢ c → to q d ≡ from q d

-- a node that is not made yet has no value_of
abbrev pub IsBlankFrom : Step → ℕ → Type 0
IsBlankFrom step n = (k d : ℕ) → n ≤ k → step (At k) d ≡ None

module _ (from to : Step) (n : ℕ) (forest : IsForest from n) (blank : IsBlankFrom from n) (t : Text) (p : Place) (c : ℕ)
    (leads : walk from Root t ≡ Some p) (free : from p c ≡ None) (attaches : Attaches from to p c n) where
  low : rank p ≤ n
  low = within from n forest t Root p (omega arith) leads

  -- each step is the new one or an old one
  step_cases : (q : Place) (d k : ℕ) → to q d ≡ Some k → ((q ≡ p) × (d ≡ c) × (k ≡ n)) ⊎ (from q d ≡ Some k)
  step_cases q d k e = elim (same_place q p) [
    | inr apart ↦ inr (sym (attaches.other_place q d apart) ∙ e)
    | inl same ↦ elim (cases_eq d c) [
      | inr apart ↦ inr (sym (attaches.other_character q d apart) ∙ e)
      | inl letter ↦
          let at : to q d ≡ Some n = (λ i. to (same i) (letter i)) ∙ attaches.here in
          inl (same, letter, (cc))
    ]
  ]

  old_step : (q : Place) (d k : ℕ) → from q d ≡ Some k → to q d ≡ Some k
  old_step q d k e = elim (same_place q p) [
    | inr apart ↦ attaches.other_place q d apart ∙ e
    | inl same ↦ elim (cases_eq d c) [
      | inr apart ↦ attaches.other_character q d apart ∙ e
      | inl letter ↦ let none : from q d ≡ None = (λ i. from (same i) (letter i)) ∙ free in absurd (cc)
    ]
  ]

  pub attached_forest : IsForest to (suc n)
  attached_forest = record {
    higher = λ q d k e. elim (step_cases q d k e) [
      | inl new ↦ rw (new.0, new.2) low
      | inr old ↦ forest.higher q d k old
    ];
    is_node = λ q d k e. elim (step_cases q d k e) [
      | inl new ↦ omega (arith, new.2)
      | inr old ↦
          omega (arith, forest.is_node q d k old)
    ];
    one_parent = λ q r d f k e g. elim (step_cases q d k e) [
      | inl new ↦ elim (step_cases r f k g) [
        | inl too ↦ new.0 ∙ sym too.0
        | inr old ↦ absurd (omega (arith, forest.is_node r f k old, new.2))
      ]
      | inr old ↦ elim (step_cases r f k g) [
        | inl new ↦ absurd (omega (arith, forest.is_node q d k old, new.2))
        | inr too ↦ forest.one_parent q r d f k old too
      ]
    ];
    one_character = λ q r d f k e g. elim (step_cases q d k e) [
      | inl new ↦ elim (step_cases r f k g) [
        | inl too ↦ new.1 ∙ sym too.1
        | inr old ↦ absurd (omega (arith, forest.is_node r f k old, new.2))
      ]
      | inr old ↦ elim (step_cases r f k g) [
        | inl new ↦ absurd (omega (arith, forest.is_node q d k old, new.2))
        | inr too ↦ forest.one_character q r d f k old too
      ]
    ];
  }

  pub attached_children : AreChildren from n → AreChildren to (suc n)
  attached_children are k lt = elim (cases_eq k n) [
    | inl same ↦ (p, c, attaches.here ∙ ap Some (sym same))
    | inr apart ↦ let child = are k (omega arith) in (child.0, child.1, old_step child.0 child.1 k child.2)
  ]

  pub attached_blank : IsBlankFrom to (suc n)
  attached_blank k d h = attaches.other_place (At k) d (λ e. let r : rank (At k)
      ≡ rank p = ap rank e in omega (arith, low)) ∙ blank k d (omega arith)

  -- the new node has no value_of yet
  pub attached_leaf : (d : ℕ) → to (At n) d ≡ None
  attached_leaf d = attaches.other_place (At n) d (λ h. let r : rank (At n) ≡ rank p = ap rank h in omega (arith, low))
      ∙ blank n d (omega arith)

  -- old paths stay
  pub old_walk : (s : Text) (q r : Place) → walk from q s ≡ Some r → walk to q s ≡ Some r
  old_walk [] q r e = e
  old_walk (d ∷ s) q r e =
      let at = walk_cons from q r d s e in
      walk_on to q d at.0 s (old_step q d at.0 at.1) ∙ old_walk s (At at.0) r at.2

  -- the path of the new node
  pub new_walk : walk to Root (t ++ c ∷ []) ≡ Some (At n)
  new_walk = walk_to to t c n Root p (old_walk t Root p leads) attaches.here

  -- and no other path is new
  pub no_other_walk : (s : Text) (q : Place) → walk to Root s ≡ Some q → (walk from Root s ≡ Some q) ⊎ (s ≡ t ++ c ∷ [])
  no_other_walk = by_last (λ s. (q : Place) → walk to Root s ≡ Some q → (walk from Root s ≡ Some q) ⊎ (s ≡ t ++ c ∷ []))
      (λ q e. inl e)
      (λ s d before q e.
      let last = walk_last to s d Root q e in
      elim (before last.0 last.2) [
        | inr new ↦
            let place : Some last.0 ≡ Some (At n) = sym last.2 ∙ ap (walk to Root) new ∙ new_walk in
            let at : last.0 ≡ At n = (cc) in
            let none : to last.0 d ≡ None = ap (λ x. to x d) at
            ∙ attaches.other_place (At n) d (λ h. let r : rank (At n) ≡ rank p = ap rank h in omega (arith, low))
            ∙ blank n d (omega arith) in
            absurd (cc)
        | inl old ↦ elim (step_cases last.0 d last.1 last.3) [
          | inl new ↦
              let front : s ≡ t = one_path from n forest s t p (old ∙ ap Some new.0) leads in
              let letter : d ≡ c = new.1 in
              inr (λ i. front i ++ letter i ∷ [])
          | inr step ↦ inl (walk_to from s d last.1 Root last.0 old step ∙ ap Some (sym last.4))
        ]
      ])

-- `to` is `from`, with a path of new nodes from the place p: the node k under the first character of cs, and so on
abbrev pub AttachesAll : Step → Step → Place → ℕ → Text → Type 0
AttachesAll from to p k [] = (q : Place) (d : ℕ) → to q d ≡ from q d
AttachesAll from to p k (c ∷ cs) = (mid : Step) × Attaches from mid p c k × AttachesAll mid to (At k) (suc k) cs

-- the place after the new nodes
abbrev pub end_of : Place → ℕ → Text → Place
end_of p k [] = p
end_of p k (c ∷ cs) = end_of (At k) (suc k) cs

-- a path of `to` is one of `from`, or one of a prefix of `whole` to a new node
abbrev pub OldOrNew : Step → Step → ℕ → Text → Text → Type 0
OldOrNew from to n whole s = (walk to Root s ≡ walk from Root s)
    ⊎ ((k : ℕ) × (n ≤ k) × (walk to Root s ≡ Some (At k)) × (walk from Root s ≡ None)
    × ((rest : Text) × (s ++ rest ≡ whole)))

pub record Grown (from to : Step) (n : ℕ) (t cs : Text) (p : Place) : Type 0 where
  pub forest : IsForest to (n + length cs)
  pub children : AreChildren from n → AreChildren to (n + length cs)
  pub blank : IsBlankFrom to (n + length cs)
  pub whole : walk to Root (t ++ cs) ≡ Some (end_of p n cs)
  pub others : (s : Text) → OldOrNew from to n (t ++ cs) s

module _ (from to : Step) (n : ℕ) (forest : IsForest from n) (blank : IsBlankFrom from n) (t : Text) (p : Place) (c : ℕ)
    (leads : walk from Root t ≡ Some p) (free : from p c ≡ None) (attaches : Attaches from to p c n) where
  -- a text without a path had none before
  pub none_before : (s : Text) → walk to Root s ≡ None → walk from Root s ≡ None
  none_before s none = by (walk from Root s) refl
    where
      by : (o : Option Place) → walk from Root s ≡ o → walk from Root s ≡ None
      by None e = e
      by (Some q) e = let path = old_walk from to n forest blank t p c leads free attaches s Root q e in absurd (cc)

  pub attached_old_or_new : (s cs : Text) → (walk to Root s ≡ walk from Root s)
      ⊎ ((walk to Root s ≡ Some (At n)) × (walk from Root s ≡ None) × (s ≡ t ++ c ∷ []))
  attached_old_or_new s cs = by (walk to Root s) refl
    where
      by : (o : Option Place) → walk to Root s ≡ o → (walk to Root s ≡ walk from Root s)
          ⊎ ((walk to Root s ≡ Some (At n)) × (walk from Root s ≡ None) × (s ≡ t ++ c ∷ []))
      by None e = inl (e ∙ sym (none_before s e))
      by (Some q) e = elim (no_other_walk from to n forest blank t p c leads free attaches s q e) [
        | inl old ↦ inl (e ∙ sym old)
        | inr new ↦ inr (
          ap (walk to Root) new ∙ new_walk from to n forest blank t p c leads free attaches,
          ap (walk from Root) new ∙ walk_push from t Root c ∙ ap (option_and_then (last_step from c)) leads
              ∙ ap (option_map At) free,
          new,
        )
      ]

pub grown : (cs t : Text) (from to : Step) (n : ℕ) (p : Place) → IsForest from n → IsBlankFrom from n → walk from Root t
    ≡ Some p → ((c : ℕ) (rest : Text) → cs ≡ c ∷ rest → from p c ≡ None) → AttachesAll from to p n cs
    → Grown from to n t cs p
grown [] t from to n p forest blank leads free same =
    let ext : from ≡ to = λ i. λ q d. sym (same q d) i in
    let P : Step → Type 0 = λ step. Grown from step n t [] p in
    subst P ext (record {
      forest = subst (λ m. IsForest from m) (sym (add-zero n)) forest;
      children = λ are k lt. are k (omega arith);
      blank = λ k d h. blank k d (omega arith);
      whole = ap (walk from Root) (append-nil t) ∙ leads;
      others = λ s. inl refl;
    })
grown (c ∷ cs) t from to n p forest blank leads free (mid, attaches, more) =
    let gap = free c cs refl in
    let old = old_walk from mid n forest blank t p c leads gap attaches in
    let next = grown cs (t ++ c ∷ []) mid to (suc n) (At n)
    (attached_forest from mid n forest blank t p c leads gap attaches)
    (attached_blank from mid n forest blank t p c leads gap attaches)
    (new_walk from mid n forest blank t p c leads gap attaches)
    (λ d rest e. attached_leaf from mid n forest blank t p c leads gap attaches d) more in
    let split : (t ++ c ∷ []) ++ cs ≡ t ++ c ∷ cs = append_assoc t (c ∷ []) cs in
    let count : suc n + length cs ≡ n + suc (length cs) = omega arith in
    record {
      forest = subst (λ m. IsForest to m) count next.forest;
      children = λ are k lt. next.children (attached_children from mid n forest blank t p c leads gap attaches are) k
          (omega arith);
      blank = subst (λ m. IsBlankFrom to m) count next.blank;
      whole = ap (walk to Root) (sym split) ∙ next.whole;
      others = λ s. elim (next.others s) [
        | inl same ↦ elim (attached_old_or_new from mid n forest blank t p c leads gap attaches s cs) [
          | inl before ↦ inl (same ∙ before)
          | inr new ↦ inr (n, le_refl n, same ∙ new.0, new.1, (cs, ap (λ u. u ++ cs) new.2 ∙ split))
        ]
        | inr new ↦ inr (
          new.0,
          (omega (arith, new.1)),
          new.2,
          none_before from mid n forest blank t p c leads gap
              attaches s new.3,
          (new.4.0, new.4.1 ∙ split),
        )
      ];
    }

-- `to` has the nodes k, k + 1 and so on below the place p, one under each character of cs, and there no other value_of
abbrev pub Chains : Step → Step → Place → ℕ → Text → Type 0
Chains from to p k [] = (d : ℕ) → to p d ≡ from p d
Chains from to p k (c ∷ cs) = (to p c ≡ Some k) × ((d : ℕ) → d ≢ c → to p d ≡ from p d)
    × Chains from to (At k) (suc k) cs

either_step : (q p : Place) → (q ≡ p) ⊎ (q ≢ p) → Option ℕ → Option ℕ → Option ℕ
either_step q p (inl same) a b = a
either_step q p (inr apart) a b = b

-- as `to` at p, and as `from` elsewhere
first_link : Step → Step → Place → Step
first_link from to p q d = either_step q p (same_place q p) (to q d) (from q d)

link_here : (from to : Step) (p : Place) (d : ℕ) → first_link from to p p d ≡ to p d
unfolding first_link either_step
link_here from to p d = elim (same_place p p) as (λ w. either_step p p w (to p d) (from p d) ≡ to p d)
    [ inl same ↦ refl | inr apart ↦ absurd (apart refl) ]

link_there : (from to : Step) (p q : Place) (d : ℕ) → q ≢ p → first_link from to p q d ≡ from q d
unfolding first_link either_step
link_there from to p q d other = elim (same_place q p) as (λ w. either_step q p w (to q d) (from q d) ≡ from q d)
    [ inl same ↦ absurd (other same) | inr apart ↦ refl ]

-- links below the first are the same seen from there
link_below : (cs : Text) (from mid to : Step) (p : Place) (k : ℕ)
    → ((q : Place) (d : ℕ) → (rank q ≡ rank p) ⊎ (k < rank q) → mid q d ≡ from q d) → rank p ≤ k
    → Chains from to p k cs → Chains mid to p k cs
link_below [] from mid to p k same up h = λ d. h d ∙ sym (same p d (inl refl))
link_below (c ∷ cs) from mid to p k same up h = (
  h.0,
  (λ d apart. h.1 d apart ∙ sym (same p d (inl refl))),
  link_below cs from mid to (At k) (suc k)
      (λ q d place. same q d (inr (elim place [ inl e ↦ omega arith | inr lt ↦ omega arith ]))) (le_refl (suc k)) h.2,
)

pub attaches_all : (cs : Text) (from to : Step) (p : Place) (k : ℕ) → rank p ≤ k → Chains from to p k cs
    → ((q : Place) (d : ℕ) → q ≢ p → rank q ≤ k → to q d ≡ from q d)
    → ((q : Place) (d : ℕ) → k + length cs < rank q → to q d ≡ from q d) → AttachesAll from to p k cs
attaches_all [] from to p k up h old beyond = λ q d. elim (same_place q p) [
  | inl same ↦ subst (λ x. to x d ≡ from x d) (sym same) (h d)
  | inr apart ↦ elim (cases_lt k (rank q)) [ inl high ↦ beyond q d (omega arith) | inr under ↦ old q d apart under ]
]
attaches_all (c ∷ cs) from to p k up h old beyond =
    let mid = first_link from to p in (
      mid,
      record {
        here = link_here from to p c ∙ h.0;
        other_place = λ q d apart. link_there from to p q d apart;
        other_character = λ q d apart. elim (same_place q p) [
          | inl same ↦ subst (λ x. mid x d ≡ from x d) (sym same) (link_here from to p d ∙ h.1 d apart)
          | inr other ↦ link_there from to p q d other
        ];
      },
      attaches_all cs mid to (At k) (suc k) (le_refl (suc k))
          (link_below cs from mid to (At k) (suc k)
          (λ q d place. link_there from to p q d (λ e. let r : rank q
          ≡ rank p = ap rank e in elim place [ inl g ↦ absurd (omega arith) | inr lt ↦ absurd (omega arith) ]))
          (le_refl (suc k)) h.2)
          (λ q d apart low. elim (same_place q p) [
            | inl same ↦ subst (λ x. to x d ≡ mid x d) (sym same) (sym (link_here from to p d))
            | inr other ↦ old q d other (below q k low apart) ∙ sym (link_there from to p q d other)
          ])
          (λ q d high. beyond q d (omega arith)
          ∙ sym (link_there from to p q d (λ e. let r : rank q ≡ rank p = ap rank e in absurd (omega arith)))),
    )
  where
    below : (q : Place) (k : ℕ) → rank q ≤ suc k → q ≢ At k → rank q ≤ k
    below Root k h apart = omega arith
    below (At j) k h apart = elim (cases_eq j k) [ inl e ↦ absurd (apart (ap At e)) | inr other ↦ omega arith ]
