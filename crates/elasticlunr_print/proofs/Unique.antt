-- What settings and commands leave is one.
use Rattle.std.proofs.Common.{◌≡◌, ℕ, zero, suc, List, [], ◌∷◌, length, arith, true≢false, is_some, Option, Some, None}
use Rattle.std.proofs.Common.{IfSome, unwrap_or, refl, sym, ap, subst, ◌∙◌}
use Rattle.std.specs.List.{slice_get}
use Rattle.std.specs.FinMap as map
use Rattle.elasticlunr_error.specs.Text.{Text}
use Rattle.elasticlunr_trie.specs.Table.{Table, Postings}
use Rattle.elasticlunr_trie.specs.Tree.{IsTrieValue}
use Rattle.elasticlunr_store.specs.Contents.{Contents}
use Rattle.serde_json.specs.Data.{Data}
use Rattle.elasticlunr_commands.specs.History.{Commands, Agree}
use Rattle.elasticlunr_commands.specs.Standing.{Plan, IsTableOf}
use Rattle.elasticlunr_print.specs.Printed.{index_object, AreTrieValues, trie, IsValueOf, IsValue, PrintAlike}
use Rattle.elasticlunr_commands.proofs.Agreeing.{holds_agreed}
use Rattle.elasticlunr_commands.proofs.Same.{same_maps, same_contents, same_postings}

module _ (commands : Commands) (i : ℕ) (T U : Table) (one : IsTableOf commands i T) (two : IsTableOf commands i U) where
  same_get : (t : Text) (o p : Option Postings) → map.get T t ≡ o → map.get U t ≡ p → o ≡ p
  same_get t None None eo ep = refl
  same_get t None (Some P) eo ep = absurd (true≢false (sym ((one.known t).1 ((two.known t).0 (ap is_some ep)))
      ∙ ap is_some eo))
  same_get t (Some P) None eo ep = absurd (true≢false (sym ((two.known t).1 ((one.known t).0 (ap is_some eo)))
      ∙ ap is_some ep))
  same_get t (Some P) (Some Q) eo ep = ap Some (same_maps P Q (λ r.
      ap (λ o. map.get (unwrap_or o map.empty) r) (sym eo) ∙ same_postings commands commands (λ q. refl) i T U one two t
      r ∙ ap (λ o. map.get (unwrap_or o map.empty) r) ep))

  -- a field has one table
  one_table : T ≡ U
  one_table = same_maps T U (λ t. same_get t (map.get T t) (map.get U t) refl refl)

-- where each place has one answer, the lists are one
same_lists : (P : ℕ → Table → Type 0) → ((i : ℕ) (T U : Table) → P i T → P i U → T ≡ U) → (ts us : List Table)
    → length ts ≡ length us
    → ((i : ℕ) → IfSome (slice_get ts i) (P i)) → ((i : ℕ) → IfSome (slice_get us i) (P i)) → ts ≡ us
same_lists P one [] [] many first second = refl
same_lists P one [] (U ∷ us) many first second = absurd (omega arith)
same_lists P one (T ∷ ts) [] many first second = absurd (omega arith)
same_lists P one (T ∷ ts) (U ∷ us) many first second =
    let here : T ≡ U = one zero T U (first zero) (second zero) in
    let more : ts ≡ us = same_lists (λ i. P (suc i)) (λ i. one (suc i)) ts us (omega arith) (λ i. first (suc i))
    (λ i. second (suc i)) in
    λ i. here i ∷ more i

-- what the store promises of a table: it has one trie value at most
abbrev pub HasOneValue : Type 0
HasOneValue = (T : Table) (v w : Data) → IsTrieValue T v → IsTrieValue T w → v ≡ w

module _ (only : HasOneValue) where
  same_values : (ts : List Table) (vs ws : List Data) → AreTrieValues ts vs → AreTrieValues ts ws → vs ≡ ws
  same_values [] [] [] one two = refl
  same_values [] [] (w ∷ ws) one two = elim two [ ]
  same_values [] (v ∷ vs) ws one two = elim one [ ]
  same_values (T ∷ ts) [] ws one two = elim one [ ]
  same_values (T ∷ ts) (v ∷ vs) [] one two = elim two [ ]
  same_values (T ∷ ts) (v ∷ vs) (w ∷ ws) (trie here more) (trie here2 more2) =
      let first = only T v w here here2 in
      let rest = same_values ts vs ws more more2 in
      λ i. first i ∷ rest i

  -- tables and contents have one value, with plans that print alike
  pub one_printed_alike : (plan other : Plan) (tables : List Table) (contents : Contents) (v w : Data)
      → PrintAlike plan other → IsValueOf plan tables contents v → IsValueOf other tables contents w → v ≡ w
  one_printed_alike plan other tables contents v w alike one two =
      let tries = same_values tables one.tries two.tries one.each_trie two.each_trie in
      let documents = one.store ∙ sym two.store in
      one.whole
      ∙ (λ i. index_object (record {
        fields = alike.same_fields i;
        reference_field = alike.same_reference_field i;
        save
            = plan.save;
        language = alike.same_language i;
        stages = alike.same_stages i;
      }) (tries i) (documents i))
      ∙ sym two.whole

  -- settings and commands have one value
  pub one_value : (plan : Plan) (commands : Commands) (v w : Data) → IsValue plan commands v → IsValue plan commands w
      → v ≡ w
  one_value plan commands v w one two =
      let tables = same_lists (IsTableOf commands) (one_table commands) one.tables two.tables (one.holds.one_each
      ∙ sym two.holds.one_each) one.holds.each two.holds.each in
      let contents = same_contents commands commands (λ r. refl) plan one.contents two.contents one.holds.store
      two.holds.store in
      let printed = subst (λ c. IsValueOf plan two.tables c v) contents
      (subst (λ ts. IsValueOf plan ts one.contents v) tables one.printed) in
      one_printed_alike plan plan two.tables two.contents v w
      (record { same_fields = refl; same_reference_field = refl; same_language = refl; same_stages = refl })
      printed two.printed

-- a value of commands is one of the commands that agree with them
pub value_agreed : (plan : Plan) (left right : Commands) (v : Data) → Agree left right → IsValue plan left v
    → IsValue plan right v
value_agreed plan left right v agree is = record {
  tables = is.tables;
  contents = is.contents;
  holds = holds_agreed left right plan is.tables is.contents agree is.holds;
  printed = is.printed;
}
