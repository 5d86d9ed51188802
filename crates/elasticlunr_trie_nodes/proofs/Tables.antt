-- What the table of numbered nodes has at a text.
use Rattle.std.proofs.lemmas.Bool.{cases_eq, eq-eqb}
use Rattle.std.proofs.Common.{◌≡◌, ◌⊎◌, inl, inr, is_some, ne_eqb, ℕ, zero, suc, ◌≤◌, true, false, cond, List, [], ◌∷◌}
use Rattle.std.proofs.Common.{◌++◌, map, length, Option, Some, None, option_map, option_and_then, slice_get, unwrap_or}
use Rattle.std.proofs.Common.{refl, sym, ap, subst, ◌∙◌, arith}
use Rattle.std.specs.Ordering.{nat_cmp, eq_by_cmp}
use Rattle.std.specs.Cmp.Lexicographic.{slice_cmp}
use Rattle.std.specs.FinMap.{find, get, empty, from_entries, get-from_entries}
use Rattle.std.proofs.lemmas.Cmp.{nat_list_cmp_total}
use Rattle.elasticlunr_error.specs.Text.{Text}
use Rattle.elasticlunr_trie_nodes.specs.Table.{Postings, knows, postings}
use Rattle.elasticlunr_trie_nodes.specs.Pairs.{Pairs, value_of, IsStrictlySorted}
use Rattle.elasticlunr_trie_nodes.specs.Frequencies.{Frequencies}
use Rattle.elasticlunr_trie_nodes.specs.Names.{Names, number_of, at}
use Rattle.elasticlunr_trie_nodes.specs.Trie.{pairs, given, branches, children_at, entries_at, step_of, walk, look}
use Rattle.elasticlunr_trie_nodes.specs.Trie.{named, paths, table_of, IsTrie}
use Rattle.elasticlunr_json.proofs.Texts.{text_tie, text_tied}
use Rattle.elasticlunr_trie_nodes.proofs.Removed.{number-name}
use Rattle.elasticlunr_trie_nodes.proofs.Forest.{walk_cons, rises, within}
use Rattle.elasticlunr_trie_nodes.specs.declared.nodes.Node.{Node}
use Rattle.elasticlunr_trie_nodes.specs.declared.nodes.Place.{Place}
use Rattle.elasticlunr_trie_nodes.specs.declared.nodes.Place.TheVariants.{Root, At}

-- x is one of the list
abbrev pub In : {A : Type 0} → A → List A → Type 0
In x [] = ⊥
In x (y ∷ ys) = (x ≡ y) ⊎ In x ys

pub in_left : {A : Type 0} (x : A) (xs ys : List A) → In x xs → In x (xs ++ ys)
in_left x [] ys h = elim h [ ]
in_left x (y ∷ xs) ys (inl e) = inl e
in_left x (y ∷ xs) ys (inr h) = inr (in_left x xs ys h)

pub in_right : {A : Type 0} (x : A) (xs ys : List A) → In x ys → In x (xs ++ ys)
in_right x [] ys h = h
in_right x (y ∷ xs) ys h = inr (in_right x xs ys h)

pub in_map : {A B : Type 0} (f : A → B) (x : A) (xs : List A) → In x xs → In (f x) (map f xs)
in_map f x [] h = elim h [ ]
in_map f x (y ∷ xs) (inl e) = inl (ap f e)
in_map f x (y ∷ xs) (inr h) = inr (in_map f x xs h)

module _ {X : Type 0} (f : Text → Option X) (q : Text) where
  none_given : (o : Option X) (t : Text) (es : List (Text × X)) → f t ≡ o → f q ≡ None → find (slice_cmp nat_cmp) q es
      ≡ None → find (slice_cmp nat_cmp) q (given o t es) ≡ None
  none_given None t es is none rest = rest
  none_given (Some x) t es is none rest =
      elim (eq_by_cmp (slice_cmp nat_cmp) q t) as (λ b. eq_by_cmp (slice_cmp nat_cmp) q t ≡ b
      → cond b (Some x) (find (slice_cmp nat_cmp) q es) ≡ None) [
        | true ↦ λ tie. let same : f q ≡ f t = ap f (text_tie q t tie) in absurd (cc)
        | false ↦ λ tie. rest
      ] refl

  pub find_none : (ts : List Text) → f q ≡ None → find (slice_cmp nat_cmp) q (pairs f ts) ≡ None
  find_none [] none = refl
  find_none (t ∷ ts) none = none_given (f t) t _ refl none (find_none ts none)

  some_given : (x : X) (o : Option X) (t : Text) (es : List (Text × X)) → f t ≡ o → f q ≡ Some x → (q ≡ t)
      ⊎ (find (slice_cmp nat_cmp) q es ≡ Some x) → find (slice_cmp nat_cmp) q (given o t es) ≡ Some x
  some_given x None t es is some (inl e) = let same : f q ≡ f t = ap f e in absurd (cc)
  some_given x None t es is some (inr rest) = rest
  some_given x (Some y) t es is some (inl e) =
      let same : f q ≡ f t = ap f e in
      let tie : eq_by_cmp (slice_cmp nat_cmp) q t ≡ true = subst (λ u. eq_by_cmp (slice_cmp nat_cmp) q u ≡ true) e
      (text_tied q) in
      let value : Some y ≡ Some x = cc in
      rw tie value
  some_given x (Some y) t es is some (inr rest) =
      elim (eq_by_cmp (slice_cmp nat_cmp) q t) as (λ b. eq_by_cmp (slice_cmp nat_cmp) q t ≡ b
      → cond b (Some y) (find (slice_cmp nat_cmp) q es) ≡ Some x) [
        | true ↦ λ tie. let same : f q ≡ f t = ap f (text_tie q t tie) in (cc)
        | false ↦ λ tie. rest
      ] refl

  pub find_some : (x : X) (ts : List Text) → f q ≡ Some x → In q ts → find (slice_cmp nat_cmp) q (pairs f ts) ≡ Some x
  find_some x [] some h = elim h [ ]
  find_some x (t ∷ ts) some (inl e) = some_given x (f t) t _ refl some (inl e)
  find_some x (t ∷ ts) some (inr h) = some_given x (f t) t _ refl some (inr (find_some x ts some h))

-- the map of the pairs has what f gives, where the list has each text for which it gives something
pub get_pairs : {X : Type 0} (f : Text → Option X) (q : Text) (ts : List Text) → ((x : X) → f q ≡ Some x → In q ts)
    → get (from_entries {R = slice_cmp nat_cmp} (pairs f ts)) q ≡ f q
get_pairs f q ts listed =
    get-from_entries nat_list_cmp_total (pairs f ts) q
    ∙ elim (f q) as (λ o. f q ≡ o → find (slice_cmp nat_cmp) q (pairs f ts) ≡ o) [
      | None ↦ λ is. find_none f q ts is
      | Some x ↦ λ is. find_some f q x ts is (listed x is)
    ] refl

-- a value_of's text stands among the branches
in_branches : (from : ℕ → List Text) (es : Pairs) (c k : ℕ) (t : Text) → value_of es c ≡ Some k → In t (from k)
    → In (c ∷ t) (branches from es)
in_branches from [] c k t e h = absurd (cc)
in_branches from ((d, j) ∷ es) c k t e h =
    elim (cases_eq d c) [
      | inl same ↦
          let number : Some j ≡ Some k = sym (ap (λ b. cond b (Some j) (value_of es c)) (eq-eqb d c same)) ∙ e in
          let here : j ≡ k = cc in
          in_left _ _ _ (subst (λ x. In (x ∷ t) (map (λ u. d ∷ u) (from j))) same
          (in_map (λ u. d ∷ u) t (from j) (subst (λ x. In t (from x)) (sym here) h)))
      | inr other ↦
          let later : value_of es c ≡ Some k = sym (ap (λ b. cond b (Some j) (value_of es c)) (ne_eqb d c other)) ∙ e in
          in_right _ _ _ (in_branches from es c k t later h)
    ]

module _ (root : Pairs) (nodes : List Node) where
  in_paths : (n : ℕ) (p q : Place) (t : Text) → walk (step_of root nodes) p t ≡ Some q → length t ≤ n
      → In t (paths root nodes n p)
  in_paths zero p q [] e h = inl refl
  in_paths (suc n) p q [] e h = inl refl
  in_paths zero p q (c ∷ t) e h = absurd (omega arith)
  in_paths (suc n) p q (c ∷ t) e h =
      let step = walk_cons (step_of root nodes) p q c t e in
      inr (in_branches _ _ c step.0 t step.1 (in_paths n (At step.0) q t step.2 (omega arith)))

module _ (root : Pairs) (nodes : List Node) (trie : IsTrie root nodes) (names : Names) where
  walked : (t : Text) (o : Option Place) → walk (step_of root nodes) Root t ≡ o → (x : Postings)
      → option_map (λ p. named names (entries_at root nodes p)) o ≡ Some x
      → In t (paths root nodes (length nodes) Root)
  walked t None is x e = absurd (cc)
  walked t (Some q) is x e =
      let far = rises _ _ trie.forest t Root q is in
      let low = within _ _ trie.forest t Root q (omega arith) is in
      in_paths root nodes (length nodes) Root q t is (omega arith)

  -- the table has at each text what its path leads to
  pub get_table : (t : Text) → get (table_of root nodes names) t ≡ look root nodes names t
  unfolding table_of
  get_table t = get_pairs (look root nodes names) t _ (λ x e. walked t _ refl x e)

  some_either : {A B : Type 0} (o : Option A) (f : A → B) → is_some (option_map f o) ≡ is_some o
  some_either None f = refl
  some_either (Some x) f = refl

  -- a text is known where its path leads somewhere
  pub knows_walk : (t : Text) → knows (table_of root nodes names) t ≡ is_some (walk (step_of root nodes) Root t)
  knows_walk t = ap is_some (get_table t) ∙ some_either (walk (step_of root nodes) Root t) _

  -- and its postings are those of the place where it leads
  pub postings_walk : (t : Text) (p : Place) → walk (step_of root nodes) Root t ≡ Some p
      → postings (table_of root nodes names) t ≡ named names (entries_at root nodes p)
  postings_walk t p e = ap (λ o. unwrap_or o empty) (get_table t
      ∙ ap (option_map (λ q. named names (entries_at root nodes q))) e)

  pub no_postings : (t : Text) → walk (step_of root nodes) Root t ≡ None → postings (table_of root nodes names) t
      ≡ empty
  no_postings t e = ap (λ o. unwrap_or o empty) (get_table t
      ∙ ap (option_map (λ q. named names (entries_at root nodes q))) e)

-- a name that has a number is one of the names
in_names : (names : Names) (r : Text) (n : ℕ) → slice_get names n ≡ Some r → In r names
in_names [] r n e = absurd (cc)
in_names (name ∷ names) r zero e = let same : name ≡ r = cc in inl (sym same)
in_names (name ∷ names) r (suc n) e = inr (in_names names r n e)

-- the posting that frequencies by number have under a name
pub get_named : (names : Names) (P : Frequencies) (r : Text) → get (named names P) r ≡ at names r P
get_named names P r = get_pairs (λ q. at names q P) r names (λ x e. by (number_of names r) refl x e)
  where
    by : (o : Option ℕ) → number_of names r ≡ o → (x : ℕ) → option_and_then (λ n. get P n) o ≡ Some x → In r names
    by None is x e = absurd (cc)
    by (Some n) is x e = in_names names r n (number-name names r n is)

-- no nodes
pub empty_trie : IsTrie [] []
empty_trie = record {
  in_order = λ p. by p;
  forest = record {
    higher = λ p c k e. absurd (none p c k e);
    is_node = λ p c k e. absurd (none p c k e);
    one_parent = λ p q c d k e f. absurd (none p c k e);
    one_character = λ p q c d k e f. absurd (none p c k e);
  };
  characters = λ p c k e. absurd (none p c k e);
}
  where
    none : (p : Place) (c k : ℕ) → step_of [] [] p c ≡ Some k → ⊥
    none Root c k e = cc
    none (At j) c k e = cc

    by : (p : Place) → IsStrictlySorted (children_at [] [] p)
    by Root i j lt in_range = absurd (omega arith)
    by (At k) i j lt in_range = absurd (omega arith)
