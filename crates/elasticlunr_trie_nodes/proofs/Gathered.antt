-- Postings that are gathered one after another.
use Rattle.std.proofs.Common.{◌≡◌, ◌≢◌, ◌⊎◌, inl, inr, ℕ, ◌<◌, ◌≤◌, ◌^◌, IsTrue, Bool, true, false, cond, List, [], ◌∷◌}
use Rattle.std.proofs.Common.{◌++◌, length, get_or, Option, Some, None, option_and_then, refl, sym, ap, subst, ◌∙◌}
use Rattle.std.proofs.Common.{arith, String, Global, string_bytes, length-append, slice_get}
use Rattle.std.specs.Ordering.{nat_cmp, eq_by_cmp}
use Rattle.std.specs.Cmp.Lexicographic.{slice_cmp}
use Rattle.std.specs.FinMap.{get, find, empty, insert, get-empty, get-insert, get-from_entries}
use Rattle.std.proofs.lemmas.Bool.{cases_eq, cases_lt}
use Rattle.elasticlunr_error.specs.Text.{Bytes, text_cmp}
use Rattle.elasticlunr_trie_nodes.specs.Pairs.{Pairs}
use Rattle.std.proofs.lemmas.Cmp.{nat_list_cmp_total}
use Rattle.elasticlunr_trie_nodes.specs.Table.{Entries, Postings, postings_of}
use Rattle.elasticlunr_trie_nodes.specs.Frequencies.{Frequencies}
use Rattle.elasticlunr_trie_nodes.specs.Names.{Names, Extends, at, number_of, entered}
use Rattle.elasticlunr_trie_nodes.specs.Nodes.{AreAllNumbered, AreListed, entries_of, postings_at, IsListed, KeepsLists}
use Rattle.elasticlunr_trie_nodes.specs.Nodes.{list_at, has}
use Rattle.elasticlunr_trie_nodes.specs.declared.nodes.Reference.{Reference}
use Rattle.elasticlunr_trie_nodes.specs.Trie.{entries_at, named}
use Rattle.elasticlunr_trie_nodes.proofs.Named.{no_names, named_extended}
use Rattle.elasticlunr_trie_nodes.specs.declared.nodes.Place.{Place}
use Rattle.elasticlunr_trie_nodes.specs.declared.nodes.Place.TheVariants.{Root, At}
use Rattle.elasticlunr_trie_nodes.specs.declared.nodes.Node.{Node}
use Rattle.elasticlunr_trie_nodes.proofs.Places.{get_there, get_before, get_behind, get_past}
use Rattle.elasticlunr_trie_nodes.proofs.Added.{inserted_here, inserted_other, at-entered, length-entered, number-below}
use Rattle.elasticlunr_trie_nodes.proofs.Entries.{bytes_of}
use Rattle.elasticlunr_json.proofs.Texts.{same_or_not, text_tied, no_tie}
use Rattle.elasticlunr_trie_nodes.proofs.Removed.{one_name}

-- G has what is found among the first entries, and nothing else than what is found among all
pub record Gathered (G : Bytes → Option ℕ) (done all : List (Bytes × ℕ)) : Type 0 where
  pub from : (r : Bytes) (n : ℕ) → G r ≡ Some n → find text_cmp r all ≡ Some n
  pub to : (r : Bytes) (n : ℕ) → find text_cmp r done ≡ Some n → G r ≡ Some n

pub gathered_none : (G : Bytes → Option ℕ) (all : List (Bytes × ℕ)) → ((r : Bytes) → G r ≡ None) → Gathered G [] all
gathered_none G all none = record { from = λ r n e. let is = none r in absurd (cc); to = λ r n e. absurd (cc) }

find_last : (done : List (Bytes × ℕ)) (e : Bytes × ℕ) (r : Bytes) (n : ℕ) → find text_cmp r (done ++ e ∷ []) ≡ Some n
    → (find text_cmp r done ≡ Some n) ⊎ ((r ≡ e.0) × (n ≡ e.1))
find_last [] e r n is = elim (same_or_not r e.0) [
  | inl same ↦ let value : Some e.1 ≡ Some n =
      sym (ap (λ b. cond b (Some e.1) None) (ap (eq_by_cmp (slice_cmp nat_cmp) r) (sym same) ∙ text_tied r))
      ∙ is in inr (same, cc)
  | inr apart ↦ let none : None ≡ Some n = sym (ap (λ b. cond b (Some e.1) None) (no_tie r e.0 apart))
      ∙ is in absurd (cc)
]
find_last (d ∷ done) e r n is = by (eq_by_cmp (slice_cmp nat_cmp) r d.0) refl (find_last done e r n)
  where
    by : (b : Bool) → eq_by_cmp (slice_cmp nat_cmp) r d.0 ≡ b
        → (find text_cmp r (done ++ e ∷ []) ≡ Some n → (find text_cmp r done ≡ Some n) ⊎ ((r ≡ e.0) × (n ≡ e.1)))
        → (find text_cmp r (d ∷ done) ≡ Some n) ⊎ ((r ≡ e.0) × (n ≡ e.1))
    by true tie rest = inl (ap (λ b. cond b (Some d.1) (find text_cmp r done)) tie
        ∙ sym (ap (λ b. cond b (Some d.1) (find text_cmp r (done ++ e ∷ []))) tie) ∙ is)
    by false apart rest = elim (rest (sym (ap (λ b. cond b (Some d.1) (find text_cmp r (done ++ e ∷ []))) apart) ∙ is)) [
      | inl before ↦ inl (ap (λ b. cond b (Some d.1) (find text_cmp r done)) apart ∙ before)
      | inr last ↦ inr last
    ]

pub gathered_step : (G H : Bytes → Option ℕ) (done all : List (Bytes × ℕ)) (e : Bytes × ℕ) → Gathered G done all
    → find text_cmp e.0 all ≡ Some e.1 → H e.0 ≡ Some e.1 → ((q : Bytes) → q ≢ e.0 → H q ≡ G q)
    → Gathered H (done ++ e ∷ []) all
gathered_step G H done all e so_far found set others = record {
  from = λ r n is. elim (same_or_not r e.0) [
    | inl same ↦ ap (λ x. find text_cmp x all) same ∙ found ∙ sym set ∙ ap H (sym same) ∙ is
    | inr apart ↦ so_far.from r n (sym (others r apart) ∙ is)
  ];
  to = λ r n is. elim (find_last done e r n is) [
    | inr last ↦ ap H last.0 ∙ set ∙ ap Some (sym last.1)
    | inl before ↦ elim (same_or_not r e.0) [
      | inl same ↦ ap H same ∙ set ∙ sym found ∙ ap (λ x. find text_cmp x all) (sym same)
          ∙ so_far.from r n (so_far.to r n before)
      | inr apart ↦ others r apart ∙ so_far.to r n before
    ]
  ];
}

pub gathered_all : (G : Bytes → Option ℕ) (all : List (Bytes × ℕ)) → Gathered G all all → (r : Bytes) → G r
    ≡ find text_cmp r all
gathered_all G all whole r = by (G r) refl (find text_cmp r all) refl
  where
    by : (o : Option ℕ) → G r ≡ o → (p : Option ℕ) → find text_cmp r all ≡ p → G r ≡ find text_cmp r all
    by (Some n) is p e = is ∙ sym (whole.from r n is)
    by None is (Some n) e = whole.to r n e ∙ sym e
    by None is None e = is ∙ sym e

-- one more posting
module _ (names : Names) (references : List Reference) (k : ℕ) (P : Frequencies) (are : IsListed names references k P)
    (r : Bytes) (names2 : Names) (is : names2 ≡ entered names r) (references2 : List Reference)
    (keeps : KeepsLists references references2) (n f : ℕ)
    (numbered : number_of names2 r ≡ Some n) (Q : Frequencies) (put : Q ≡ insert P n f) where
  pub put_listed : IsTrue (has (list_at references2 n) k) → f < 2 ^ 64 → IsListed names2 references2 k Q
  put_listed listed fits = record {
    listed = λ m g e. (each m g e).0;
    named = λ m g e. (each m g e).1;
    small =
        λ m g e. (each m g e).2;
  }
    where
      more : length names ≤ length names2
      more = omega (arith, length-entered names r _ refl, ap length is)

      each : (m g : ℕ) → get Q m ≡ Some g → IsTrue (has (list_at references2 m) k) × (m < length names2) × (g < 2 ^ 64)
      each m g e =
          let there : get (insert P n f) m ≡ Some g = ap (λ S. get S m) (sym put) ∙ e in
          elim (cases_eq m n) [
            | inr apart ↦
                let old = sym (inserted_other P n f m apart) ∙ there in
                (keeps m k (are.listed m g old), omega (arith, are.named m g old, more), are.small m g old)
            | inl same ↦
                let value : Some f ≡ Some g = sym (inserted_here P n f) ∙ ap (get (insert P n f)) (sym same) ∙ there in
                let equal : f ≡ g = cc in (
                  subst (λ x. IsTrue (has (list_at references2 x) k)) (sym same) listed,
                  subst (λ x. x < length names2)
                      (sym same) (number-below names2 r n numbered),
                  subst (λ x. x < 2 ^ 64) equal fits,
                )
          ]

  pub put_here : at names2 r Q ≡ Some f
  put_here = ap (λ o. option_and_then (λ m. get Q m) o) numbered ∙ ap (λ S. get S n) put ∙ inserted_here P n f

  pub put_others : (q : Bytes) → q ≢ r → at names2 q Q ≡ at names q P
  put_others q apart = by (number_of names2 q) refl ∙ ap (λ ns. at ns q P) is ∙ at-entered names r P are.named q
    where
      by : (o : Option ℕ) → number_of names2 q ≡ o → option_and_then (λ m. get Q m) o ≡ option_and_then (λ m. get P m) o
      by None e = refl
      by (Some m) e = ap (λ S. get S m) put ∙ inserted_other P n f m
          (λ same. apart (one_name names2 q r n (e ∙ ap Some same) numbered))

-- names that are entered extend the old ones
pub extends_entered : (names names2 : Names) (r : Bytes) → names2 ≡ entered names r → Extends names names2
extends_entered names names2 r is = record {
  more = omega (arith, length-entered names r _ refl, ap length is);
  same = λ P numbered q. ap (λ ns. at ns q P) is ∙ at-entered names r P numbered q;
}

pub extends_same : (names : Names) → Extends names names
extends_same names = record { more = omega arith; same = λ P numbered q. refl }

pub extends_on : (old mid new : Names) → Extends old mid → Extends mid new → Extends old new
extends_on old mid new one two = record {
  more = omega (arith, one.more, two.more);
  same = λ P numbered q. two.same P (λ n f e. omega (arith, numbered n f e, one.more)) q ∙ one.same P numbered q;
}

pub none_listed_yet : (names : Names) (references : List Reference) (k : ℕ) → IsListed names references k empty
none_listed_yet names references k = record {
  listed = λ n f e. absurd (nothing n f e);
  named = λ n f e. absurd (nothing n f e);
  small = λ n f e. absurd (nothing n f e);
}
  where
    nothing : (n f : ℕ) → get (empty {X = ℕ} {R = nat_cmp}) n ≡ Some f → ⊥
    nothing n f e = let none : get (empty {X = ℕ} {R = nat_cmp}) n ≡ None = get-empty nat_cmp n in cc

pub nobody_at : (names : Names) (r : Bytes) → at names r empty ≡ None
nobody_at names r = by (number_of names r)
  where
    by : (o : Option ℕ) → option_and_then {U = ℕ} (λ n. get (empty {X = ℕ} {R = nat_cmp}) n) o ≡ None
    by None = refl
    by (Some n) = get-empty nat_cmp n

-- a map with one more entry
pub map_put_here : (P Q : Postings) (r : Bytes) (f : ℕ) → Q ≡ insert P r f → get Q r ≡ Some f
map_put_here P Q r f put = ap (λ S. get S r) put ∙ get-insert nat_list_cmp_total P r f r
    ∙ ap (λ b. cond b (Some f) (get P r)) (text_tied r)

pub map_put_other : (P Q : Postings) (r : Bytes) (f : ℕ) → Q ≡ insert P r f → (q : Bytes) → q ≢ r → get Q q ≡ get P q
map_put_other P Q r f put q apart = ap (λ S. get S q) put ∙ get-insert nat_list_cmp_total P r f q
    ∙ ap (λ b. cond b (Some f) (get P q)) (no_tie q r apart)

pub no_postings_yet : (r : Bytes) (es : Entries) → es ≡ [] → get (postings_of es) r ≡ None
no_postings_yet r es none = ap (λ xs. get (postings_of xs) r) none ∙ get-from_entries nat_list_cmp_total [] r

pub bytes_push : (done : Entries) (e : String Global × ℕ) → bytes_of (done ++ e ∷ [])
    ≡ bytes_of done ++ (string_bytes e.0, e.1) ∷ []
bytes_push [] e = refl
bytes_push (d ∷ done) e = ap (λ xs. (string_bytes d.0, d.1) ∷ xs) (bytes_push done e)

pub none_all_listed : (names : Names) (references : List Reference) → AreListed names references []
none_all_listed names references = record {
  listed = λ k n f e. absurd (nothing k n f e);
  named = λ k n f e. absurd (nothing k n f e);
  small = λ k n f e. absurd (nothing k n f e);
}
  where
    nothing : (k n f : ℕ) → get (postings_at [] k) n ≡ Some f → ⊥
    nothing k n f e = let none : get (postings_at [] k) n ≡ None = get-empty nat_cmp n in cc

-- one more node whose postings are listed
pub listed_behind : (names : Names) (references : List Reference) (nodes : List Node) → AreListed names references nodes
    → (names2 : Names) (references2 : List Reference) → Extends names names2 → KeepsLists references references2
    → (node : Node) → IsListed names2 references2 (length nodes) node.postings
    → AreListed names2 references2 (nodes ++ node ∷ [])
listed_behind names references nodes are names2 references2 extends keeps node fresh = record {
  listed = λ k n f e. (each k n f e).0;
  named = λ k n f e. (each k n f e).1;
  small = λ k n f e. (each k n f e).2;
}
  where
    each : (k n f : ℕ) → get (postings_at (nodes ++ node ∷ []) k) n ≡ Some f → IsTrue (has (list_at references2 n) k)
        × (n < length names2) × (f < 2 ^ 64)
    each k n f e = elim (cases_lt k (length nodes)) [
      | inl before ↦
          let old = sym (ap (λ o. get (entries_of o) n) (get_before nodes (node ∷ []) k before)) ∙ e in
          (keeps n k (are.listed k n f old), omega (arith, are.named k n f old, extends.more), are.small k n f old)
      | inr behind ↦ elim (cases_eq k (length nodes)) [
        | inl last ↦
            let here = sym (ap (λ o. get (entries_of o) n) (get_behind nodes (node ∷ []) k 0 (omega arith))) ∙ e in (
              subst (λ x. IsTrue (has (list_at references2 n) x)) (sym last) (fresh.listed n f here),
              fresh.named n f
                  here,
              fresh.small n f here,
            )
        | inr past ↦
            let none : get (postings_at (nodes ++ node ∷ []) k) n
            ≡ None = ap (λ o. get (entries_of o) n)
            (get_past (nodes ++ node ∷ []) k (omega (arith, length-append nodes (node ∷ []))))
            ∙ get-empty nat_cmp n in
            absurd (cc)
      ]
    ]

-- places whose postings keep their names
pub places_extended : (names names2 : Names) (root : Pairs) (nodes : List Node) → Extends names names2
    → AreAllNumbered names nodes → (q : Place) → named names2 (entries_at root nodes q)
    ≡ named names (entries_at root nodes q)
places_extended names names2 root nodes extends numbered Root = no_names names2 ∙ sym (no_names names)
places_extended names names2 root nodes extends numbered (At k) = named_extended names names2 (postings_at nodes k)
    extends (numbered k)

-- the name that stands at a number
pub name_of : (names : Names) (n : ℕ) (r : Bytes) → n < length names → slice_get names n ≡ Some r → r
    ≡ get_or names n []
name_of names n r lt is = let both : Some r ≡ Some (get_or names n []) = sym is ∙ get_there names n [] lt in cc
