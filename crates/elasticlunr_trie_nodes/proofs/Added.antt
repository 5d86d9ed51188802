-- A posting is set, by the number and by the name of its reference.
use Rattle.std.proofs.Common.{◌≡◌, ◌≢◌, ◌⊎◌, inl, inr, ℕ, suc, ◌<◌, ◌≤◌, ◌^◌, Bool, true, false, cond, eqb, ne_eqb}
use Rattle.std.proofs.Common.{is_some, IsTrue, List, [], ◌∷◌, ◌++◌, length, Option, Some, None, option_map}
use Rattle.std.proofs.Common.{option_and_then, refl, sym, ap, subst, ◌∙◌, arith, length-append, bytes_eq, Result, Ok}
use Rattle.std.proofs.Common.{Err, OnOk, OnErr, String, Global}
use mathlib.Core.Bool.{false≢true}
use Rattle.std.specs.FinMap.{get, insert, get-insert}
use Rattle.std.proofs.lemmas.Bool.{cases_eq, cases_lt, eq-eqb}
use Rattle.std.specs.List.{slice_get}
use Rattle.std.specs.Str.{IsUtf8}
use Rattle.elasticlunr_trie_nodes.proofs.Places.{get_before, get_behind, get_past}
use Rattle.std.proofs.lemmas.Cmp.{nat_cmp_total}
use Rattle.std.proofs.lemmas.Slice.Eq.{bytes_eq-Decides}
use Rattle.elasticlunr_trie_nodes.specs.Frequencies.{Frequencies}
use Rattle.elasticlunr_trie_nodes.specs.Names.{AreDistinct, AreNames, Names, names_of, number_of, entered, at}
use Rattle.elasticlunr_trie_nodes.specs.Nodes.{postings_at, list_at, has, AreListed, KeepsLists, SetsNumber, SameNodes}
use Rattle.elasticlunr_trie_nodes.specs.Nodes.{SamePostings, SetsPosting}
use Rattle.elasticlunr_error.specs.Text.{Bytes}
use Rattle.elasticlunr_trie_nodes.specs.declared.nodes.Node.{Node}
use Rattle.elasticlunr_trie_nodes.specs.declared.nodes.Reference.{Reference}
use Rattle.elasticlunr_trie_nodes.proofs.Frequencies.{ties}
use Rattle.elasticlunr_trie_nodes.proofs.Numbers.{number-push, bytes_same}
use Rattle.elasticlunr_trie_nodes.proofs.Removed.{one_name}

inserted_at : (P : Frequencies) (n f m : ℕ) → get (insert P n f) m ≡ cond (eqb n m) (Some f) (get P m)
inserted_at P n f m = get-insert nat_cmp_total P n f m ∙ ap (λ b. cond b (Some f) (get P m)) (ties m n)

pub inserted_here : (P : Frequencies) (n f : ℕ) → get (insert P n f) n ≡ Some f
inserted_here P n f = inserted_at P n f n ∙ ap (λ b. cond b (Some f) (get P n)) (eq-eqb n n refl)

pub inserted_other : (P : Frequencies) (n f m : ℕ) → m ≢ n → get (insert P n f) m ≡ get P m
inserted_other P n f m apart = inserted_at P n f m
    ∙ ap (λ b. cond b (Some f) (get P m)) (ne_eqb n m (λ e. apart (sym e)))

-- bytes are the same or not
pub same_name : (q r : Bytes) → (b : Bool) → bytes_eq r q ≡ b → (q ≡ r) ⊎ (q ≢ r)
same_name q r true e = inl (sym ((bytes_eq-Decides r q).0 e))
same_name q r false e = inr (λ same. false≢true (sym e ∙ ap (λ x. bytes_eq r x) same ∙ bytes_same r))

-- a number is below their count
number_bound : (b : Bool) (o : Option ℕ) (n c : ℕ) → ((m : ℕ) → o ≡ Some m → m < c) → cond b (Some 0) (option_map suc o)
    ≡ Some n → n < suc c
number_bound true o n c rest e = let first : 0 ≡ n = cc in omega arith
number_bound false None n c rest e = absurd (cc)
number_bound false (Some m) n c rest e = let later : suc m ≡ n = cc in omega (arith, rest m refl)

pub number-below : (names : Names) (r : Bytes) (n : ℕ) → number_of names r ≡ Some n → n < length names
number-below [] r n e = absurd (cc)
number-below (name ∷ names) r n e = number_bound (bytes_eq name r) (number_of names r) n (length names)
    (number-below names r) e

module _ (names : Names) (r : Bytes) where
  old_names : (n : ℕ) → number_of names r ≡ Some n → entered names r ≡ names
  old_names n e = ap (λ o. cond (is_some o) names (names ++ r ∷ [])) e

  new_names : number_of names r ≡ None → entered names r ≡ names ++ r ∷ []
  new_names e = ap (λ o. cond (is_some o) names (names ++ r ∷ [])) e

  -- no name is lost
  pub length-entered : (o : Option ℕ) → number_of names r ≡ o → length names ≤ length (entered names r)
  length-entered None e = omega (arith, ap length (new_names e), length-append names (r ∷ []))
  length-entered (Some n) e = omega (arith, ap length (old_names n e))

  -- the other names keep their numbers
  number-other : (q : Bytes) → q ≢ r → (o : Option ℕ) → number_of names r ≡ o → number_of (entered names r) q
      ≡ number_of names q
  number-other q apart None e =
      ap (λ ns. number_of ns q) (new_names e) ∙ number-push names r e q ∙ by (bytes_eq r q) refl
    where
      by : (b : Bool) → bytes_eq r q ≡ b → cond (bytes_eq r q) (Some (length names)) (number_of names q)
          ≡ number_of names q
      by true is = absurd (apart (sym ((bytes_eq-Decides r q).0 is)))
      by false is = ap (λ b. cond b (Some (length names)) (number_of names q)) is
  number-other q apart (Some n) e = ap (λ ns. number_of ns q) (old_names n e)

  -- a new name has no postings, so it is not seen
  pub at-entered : (P : Frequencies) → ((n f : ℕ) → get P n ≡ Some f → n < length names) → (q : Bytes)
      → at (entered names r) q P ≡ at names q P
  at-entered P named q = elim (same_name q r (bytes_eq r q) refl) [
    | inr apart ↦ ap (λ o. option_and_then (λ n. get P n) o) (number-other q apart (number_of names r) refl)
    | inl same ↦ subst (λ x. at (entered names r) x P ≡ at names x P) (sym same) (here (number_of names r) refl)
  ]
    where
      none_there : (o : Option ℕ) → get P (length names) ≡ o → get P (length names) ≡ None
      none_there None e = e
      none_there (Some f) e = absurd (omega (arith, named (length names) f e))

      here : (o : Option ℕ) → number_of names r ≡ o → at (entered names r) r P ≡ at names r P
      here None e =
          ap (λ o. option_and_then (λ n. get P n) o) (ap (λ ns. number_of ns r) (new_names e) ∙ number-push names r e r
          ∙ ap (λ b. cond b (Some (length names)) (number_of names r)) (bytes_same r))
          ∙ none_there (get P (length names)) refl ∙ sym (ap (λ o. option_and_then (λ n. get P n) o) e)
      here (Some n) e = ap (λ ns. at ns r P) (old_names n e)

-- names that are entered still differ
module _ (names : Names) (r : Bytes) where
  entered_text : (n : ℕ) (q : Bytes) → slice_get (names ++ r ∷ []) n ≡ Some q
      → ((n < length names) × (slice_get names n ≡ Some q)) ⊎ ((n ≡ length names) × (q ≡ r))
  entered_text n q e = elim (cases_lt n (length names)) [
    | inl before ↦ inl (before, sym (get_before names (r ∷ []) n before) ∙ e)
    | inr behind ↦ elim (cases_eq n (length names)) [
      | inl last ↦ let both : Some r ≡ Some q = sym (get_behind names (r ∷ []) n 0 (omega arith)) ∙ e in inr (last, cc)
      | inr past ↦ let none = get_past (names ++ r ∷ []) n (omega (arith, length-append names (r ∷ []))) in absurd (cc)
    ]
  ]

  apart_name : (q : Bytes) → q ≢ r → (b : Bool) → bytes_eq r q ≡ b
      → cond (bytes_eq r q) (Some (length names)) (number_of names q) ≡ number_of names q
  apart_name q apart true is = absurd (apart (sym ((bytes_eq-Decides r q).0 is)))
  apart_name q apart false is = ap (λ b. cond b (Some (length names)) (number_of names q)) is

  pub distinct_push : AreDistinct names → number_of names r ≡ None → AreDistinct (names ++ r ∷ [])
  distinct_push distinct e n q there = number-push names r e q ∙ elim (entered_text n q there) [
    | inr last ↦ ap (λ b. cond b (Some (length names)) (number_of names q)) (ap (bytes_eq r) last.1 ∙ bytes_same r)
        ∙ ap Some (sym last.0)
    | inl old ↦ elim (same_name q r (bytes_eq r q) refl) [
      | inl same ↦ let number : number_of names r ≡ Some n = ap (number_of names) (sym same)
          ∙ distinct n q old.1 in absurd (cc)
      | inr apart ↦ apart_name q apart (bytes_eq r q) refl ∙ distinct n q old.1
    ]
  ]

pub names_entered : (names : Names) → AreNames names → (r : Bytes) → IsUtf8 r → AreNames (entered names r)
names_entered names are r utf8 = by (number_of names r) refl
  where
    by : (o : Option ℕ) → number_of names r ≡ o → AreNames (entered names r)
    by (Some n) e = subst AreNames (sym (old_names names r n e)) are
    by None e = subst AreNames (sym (new_names names r e)) (record {
      distinct = distinct_push names r are.distinct e;
      texts = λ n q there. elim (entered_text names r n q there) [
        | inl old ↦ are.texts n q old.1
        | inr last ↦
            subst IsUtf8 (sym last.1) utf8
      ];
    })

-- the names of a map stay distinct where one more name comes
pub distinct_stay : {E : Type 0} (old new : List (String Global)) (name : Bytes) → number_of (names_of old) name ≡ None
    → (result : Result ℕ E) → AreDistinct (names_of old) → OnOk result (names_of new ≡ names_of old ++ name ∷ [])
    → OnErr result (new ≡ old) → AreDistinct (names_of new)
distinct_stay old new name free (Ok x) distinct names same = subst AreDistinct (sym names)
    (distinct_push (names_of old) name distinct free)
distinct_stay old new name free (Err e) distinct names same = subst (λ ss. AreDistinct (names_of ss)) (sym same)
    distinct

module _ (names : Names) (references : List Reference) (nodes : List Node) (are : AreListed names references nodes)
  where
    -- more names, longer lists, and the same postings
    pub still_listed : (names2 : Names) (references2 : List Reference) (nodes2 : List Node) → length names ≤ length names2
        → KeepsLists references references2 → ((k : ℕ) → postings_at nodes2 k ≡ postings_at nodes k)
        → AreListed names2 references2 nodes2
    still_listed names2 references2 nodes2 more keeps same = record {
      listed = λ k n f e. keeps n k (are.listed k n f (was k n f e));
      named = λ k n f e. omega (arith, are.named k n f (was k n f e));
      small = λ k n f e. are.small k n f (was k n f e);
    }
      where
        was : (k n f : ℕ) → get (postings_at nodes2 k) n ≡ Some f → get (postings_at nodes k) n ≡ Some f
        was k n f e = ap (λ P. get P n) (sym (same k)) ∙ e

    -- names that are entered, and the same postings
    pub same_postings : (r : Bytes) (nodes2 : List Node) → SameNodes nodes nodes2
        → SamePostings names (entered names r) nodes nodes2
    same_postings r nodes2 same = record {
      shape = same.shape;
      postings = λ k q. ap (λ P. at (entered names r) q P) (same.postings k)
          ∙ at-entered names r (postings_at nodes k) (are.named k) q;
    }

    module _ (nodes2 : List Node) (k n f : ℕ) (sets : SetsNumber nodes nodes2 k n f) where
      pub set_listed : (names2 : Names) (references2 : List Reference) → length names ≤ length names2
          → KeepsLists references references2 → n < length names2 → f < 2 ^ 64 → IsTrue (has (list_at references2 n) k)
          → AreListed names2 references2 nodes2
      set_listed names2 references2 more keeps numbered fits listed = record {
        listed = λ j m g e. (each j m g e).0;
        named = λ j m g e. (each j m g e).1;
        small = λ j m g e. (each j m g e).2;
      }
        where
          old : (j m g : ℕ) → get (postings_at nodes j) m ≡ Some g → IsTrue (has (list_at references2 m) j)
              × (m < length names2) × (g < 2 ^ 64)
          old j m g e = (keeps m j (are.listed j m g e), omega (arith, are.named j m g e), are.small j m g e)

          each : (j m g : ℕ) → get (postings_at nodes2 j) m ≡ Some g → IsTrue (has (list_at references2 m) j)
              × (m < length names2) × (g < 2 ^ 64)
          each j m g e = elim (cases_eq j k) [
            | inr apart ↦ old j m g (ap (λ P. get P m) (sym (sets.elsewhere j apart)) ∙ e)
            | inl same ↦
                let there : get (insert (postings_at nodes k) n f) m ≡ Some g = ap (λ P. get P m) (sym sets.here)
                ∙ subst (λ x. get (postings_at nodes2 x) m ≡ Some g) same e in
                elim (cases_eq m n) [
                  | inr apart ↦ subst (λ x. IsTrue (has (list_at references2 m) x) × (m < length names2) × (g < 2 ^ 64))
                      (sym same) (old k m g (sym (inserted_other _ n f m apart) ∙ there))
                  | inl is ↦
                      let value : Some f ≡ Some g = sym (inserted_here (postings_at nodes k) n f)
                      ∙ ap (λ x. get (insert (postings_at nodes k) n f) x) (sym is) ∙ there in
                      let equal : f ≡ g = cc in
                      (rw (is, same) listed, omega arith, omega arith)
                ]
          ]

      pub set_posting : (r : Bytes) → number_of (entered names r) r ≡ Some n
          → SetsPosting names (entered names r) nodes nodes2 k r f
      set_posting r numbered = record {
        shape = sets.shape;
        here = ap (λ o. option_and_then (λ m. get (postings_at nodes2 k) m) o) numbered ∙ ap (λ P. get P n) sets.here
            ∙ inserted_here _ n f;
        others = λ j q other. elim (cases_eq j k) [
          | inr apart ↦ ap (λ P. at (entered names r) q P) (sets.elsewhere j apart)
              ∙ at-entered names r (postings_at nodes j) (are.named j) q
          | inl same ↦ subst (λ x. at (entered names r) q (postings_at nodes2 x) ≡ at names q (postings_at nodes x))
              (sym same)
              (by q (λ e. other (same, e)) (number_of (entered names r) q) refl
              ∙ at-entered names r (postings_at nodes k) (are.named k) q)
        ];
      }
        where
          by : (q : Bytes) → q ≢ r → (o : Option ℕ) → number_of (entered names r) q ≡ o
              → at (entered names r) q (postings_at nodes2 k) ≡ at (entered names r) q (postings_at nodes k)
          by q apart None e = ap (λ o. option_and_then (λ m. get (postings_at nodes2 k) m) o) e
              ∙ sym (ap (λ o. option_and_then (λ m. get (postings_at nodes k) m) o) e)
          by q apart (Some m) e =
              ap (λ o. option_and_then (λ x. get (postings_at nodes2 k) x) o) e ∙ ap (λ P. get P m) sets.here
              ∙ inserted_other _ n f m (λ is. apart (one_name (entered names r) q r n (e ∙ ap Some is) numbered))
              ∙ sym (ap (λ o. option_and_then (λ x. get (postings_at nodes k) x) o) e)
