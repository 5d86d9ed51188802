-- What commands with the same current documents leave is the same.
use Rattle.std.proofs.Common.{◌≡◌, ◌≢◌, ◌≤◌, ℕ, zero, suc, List, [], Bool, true, false, Option, None, Some, IfSome}
use Rattle.std.proofs.Common.{option_map, option_and_then, bytes_eq, arith, refl, sym, ap, subst, ◌∙◌}
use Rattle.std.specs.Prelude.{count_by}
use Rattle.std.specs.List.{slice_get}
use Rattle.std.specs.Option.{option_map_or}
use Rattle.std.specs.FinMap as map
use Rattle.std.specs.Cmp.Lexicographic.{nat_list_cmp_total}
use Rattle.elasticlunr_error.specs.Text.{Text, Bytes, text_cmp}
use Rattle.elasticlunr_trie.specs.Table.{Table, posting}
use Rattle.elasticlunr_store.specs.Contents.{Contents, LengthMap}
use Rattle.elasticlunr_commands.specs.Root.{IsRoot}
use Rattle.elasticlunr_commands.specs.History.{Commands, now}
use Rattle.elasticlunr_commands.specs.Standing.{Plan, tokens_at, occurrences, IsPosting, IsTableOf, stored, length_in}
use Rattle.elasticlunr_commands.specs.Standing.{IsContentsOf, Holds}
use Rattle.elasticlunr_commands.proofs.Adding.{same, apart}

-- each count has one root
one_root : (n r s : ℕ) → IsRoot n r → IsRoot n s → r ≡ s
one_root n r s left right = let below : r ≤ s = right.greatest r left.fits in let above : s ≤ r =
    left.greatest s right.fits in omega (arith, below, above)

-- a count has one posting
one_posting : (n : ℕ) (left right : Option ℕ) → IsPosting n left → IsPosting n right → left ≡ right
one_posting zero left right l r = l ∙ sym r
one_posting (suc n) None right l r = absurd l
one_posting (suc n) (Some x) None l r = absurd r
one_posting (suc n) (Some x) (Some y) l r = ap Some (one_root (suc n) x y l r)

-- maps with texts as keys that find the same are one
pub same_maps : {X : Type 0} (m n : map.FinMap text_cmp X) → ((q : Bytes) → map.get m q ≡ map.get n q) → m ≡ n
same_maps m n is = map.same_map nat_list_cmp_total (map.slice_cmp-IsAntisymmetric map.nat_cmp-IsAntisymmetric) m n is

-- lengths that are the same by look-ups, where no map of them is empty
same_lengths : (l r : Option LengthMap) → l ≢ Some map.empty → r ≢ Some map.empty
    → ((field : Bytes) → option_and_then (λ m. map.get m field) l ≡ option_and_then (λ m. map.get m field) r) → l ≡ r
same_lengths None None p q is = refl
same_lengths None (Some m) p q is = absurd
    (q (ap Some (same_maps m map.empty (λ field. sym (is field) ∙ sym (map.get-empty text_cmp field)))))
same_lengths (Some m) None p q is = absurd
    (p (ap Some (same_maps m map.empty (λ field. is field ∙ sym (map.get-empty text_cmp field)))))
same_lengths (Some m) (Some n) p q is = ap Some (same_maps m n is)

module _ (commands fresh : Commands) (same_now : (r : Bytes) → now fresh r ≡ now commands r) where
  pub same_contents : (plan : Plan) (contents kept : Contents) → IsContentsOf plan commands contents
      → IsContentsOf plan fresh kept → contents ≡ kept
  same_contents plan contents kept l r = made contents kept (l.save ∙ sym r.save)
      (same_maps contents.texts kept.texts (λ q. l.texts q ∙ ap (option_map (stored plan)) (sym (same_now q))
      ∙ sym (r.texts q)))
      (same_maps contents.lengths kept.lengths
      (λ q. same_lengths _ _ (l.are_contents.has_lengths q) (r.are_contents.has_lengths q)
      (λ field. l.lengths q field ∙ ap (option_and_then (λ d. length_in plan.fields d.given field)) (sym (same_now q))
      ∙ sym (r.lengths q field)))) where
        made : (c d : Contents) → c.save ≡ d.save → c.texts ≡ d.texts → c.lengths ≡ d.lengths → c ≡ d
        made c d save texts lengths = λ i. record { save = save i; texts = texts i; lengths = lengths i }

  pub same_postings : (i : ℕ) (table other : Table) → IsTableOf commands i table → IsTableOf fresh i other
      → (token : Text) (r : Bytes) → posting table token r ≡ posting other token r
  same_postings i table other l r token reference = by_test (bytes_eq token []) refl where
    by_test : (b : Bool) → bytes_eq token [] ≡ b → posting table token reference ≡ posting other token reference
    by_test true e = ap (λ t. posting table t reference) (same token [] e) ∙ l.no_empty reference
        ∙ sym (r.no_empty reference) ∙ ap (λ t. posting other t reference) (sym (same token [] e))
    by_test false e = one_posting (occurrences commands i token reference) _ _
        (l.postings token reference (apart token [] e))
        (subst (λ o. IsPosting (option_map_or (count_by (bytes_eq token)) (option_and_then (tokens_at i) o) 0)
        (posting other token reference)) (same_now reference) (r.postings token reference (apart token [] e)))

  pub same_postings_held : (plan : Plan) (tables others : List Table) (contents kept : Contents)
      → Holds plan commands tables contents → Holds plan fresh others kept
      → (i : ℕ) (table other : Table) → slice_get tables i ≡ Some table → slice_get others i ≡ Some other
      → (token : Text) (r : Bytes) → posting table token r ≡ posting other token r
  same_postings_held plan tables others contents kept l r i table other et eo = same_postings i table other
      (subst (λ o. IfSome o (IsTableOf commands i)) et (l.each i))
      (subst (λ o. IfSome o (IsTableOf fresh i)) eo (r.each i))
