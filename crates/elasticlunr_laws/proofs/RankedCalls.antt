-- What is ranked in one field is what is found there.
use Rattle.std.proofs.Common.{◌≡◌, ◌≢◌, ◌↔◌, ◌==◌, ◌<◌, lit<, get_or, ℕ, zero, suc, Bool, true, false, true≢false, not, ◌||◌, cond}
use Rattle.std.proofs.Common.{List, [], ◌∷◌, length, map, Option, Some, None, option_map, Less, Ordering}
use Rattle.std.proofs.Common.{refl, sym, ap, subst, ◌∙◌, arith, All as AllOf, bytes_eq}
use Rattle.std.specs.Prelude.{◌&&◌, T, Contains, IsSome, IsTrue, is_some, unwrap_or}
use Rattle.std.specs.FinMap.{empty, insert, get, get-empty, get-insert, len, empty_of_len, keys, contains_key-keys}
use Rattle.std.specs.FinMap.Entries.{below_all, is_sorted}
use Rattle.std.specs.Float.{Float}
use Rattle.std.specs.List.{AllByRecursion, cons_option, list_any, slice_get, zip}
use Rattle.std.specs.List.Sorted.{IsStrictlySortedBy}
use Rattle.std.specs.Ordering.{is_eq, is_lt}
use Rattle.std.proofs.lemmas.Cmp.{nat_list_cmp_total}
use Rattle.std.proofs.lemmas.List.Elements.{All-head, All-tail}
use Rattle.std.proofs.lemmas.List.Sorted.{Contains-permutation, IsPermutation-map, IsPermutation-sym}
use Rattle.std.proofs.lemmas.Slice.Eq.{bytes_eq-Decides}
use Rattle.elasticlunr.specs.Calls.{Call}
use Rattle.elasticlunr.specs.Fields.{all_differ, has_name}
use Rattle.elasticlunr.specs.Found.{HasToken}
use Rattle.elasticlunr.specs.FoundAfter.{HasTokenAfter}
use Rattle.elasticlunr.specs.History.{Commands}
use Rattle.elasticlunr.specs.ReadDocuments.{HasReadToken}
use Rattle.elasticlunr.specs.Shape.{ArePartsOf}
use Rattle.elasticlunr.specs.Standing.{IsTableOf, Plan}
use Rattle.elasticlunr.specs.Text.{Text, Bytes, text_cmp}
use Rattle.elasticlunr_trie.specs.Table.{Table, posting}
use Rattle.elasticlunr_store.specs.Contents.{Contents}
use Rattle.elasticlunr_store.specs.Options.{FieldMap, Options}
use Rattle.elasticlunr_store.specs.declared.config.SearchOptionsField.{SearchOptionsField}
use Rattle.elasticlunr_ranking.specs.Choice.{field_for, field_with, fields_for}
use Rattle.elasticlunr_ranking.specs.Fields.{Field}
use Rattle.elasticlunr_ranking.specs.Order.{AreRanked}
use Rattle.elasticlunr_ranking.specs.Postings.{HasTokens, IsPlain}
use Rattle.elasticlunr_ranking.proofs.Choosing.{not_zero}
use Rattle.elasticlunr_ranking.proofs.Finding.{tested}
use Rattle.elasticlunr_search.specs.AfterCalls.{IsFoundAfter}
use Rattle.elasticlunr_search.specs.Query.{AreTokensOf}
use Rattle.elasticlunr_search.specs.declared.words.Join.{Join}
use Rattle.elasticlunr_search.specs.declared.words.Join.TheVariants.{Any, All}
use Rattle.elasticlunr_search.proofs.Asking.{PostingsTell, table_at}
use Rattle.elasticlunr_search.proofs.Wording.{asks, not_none, some_token}
use Rattle.elasticlunr_laws.specs.Ranked.{ChooseOne, RanksAfter, joined_as}

-- ---- the field that is searched

or_false : (a b : Bool) → a ≡ false → (a || b) ≡ true → b ≡ true
or_false true b fails holds = absurd (true≢false fails)
or_false false b fails holds = holds

and_first : (a b : Bool) → (a && b) ≡ true → a ≡ true
and_first true b holds = refl
and_first false b holds = holds

and_second : (a b : Bool) → (a && b) ≡ true → b ≡ true
and_second true b holds = holds
and_second false b holds = absurd (true≢false (sym holds))

no_longer : (a : Bool) → not a ≡ true → a ≡ false
no_longer true holds = sym holds
no_longer false holds = refl

-- what holds of each key holds of one that is there
any_key : (q : Bytes) (ks : List Bytes) (P : Bytes → Type 0) → list_any (λ k. is_eq (text_cmp q k)) ks ≡ true
    → AllOf P ks → P q
any_key q [] P any all = absurd (true≢false (sym any))
any_key q (k ∷ ks) P any all = elim (bytes_eq k q) as (λ b. bytes_eq k q ≡ b → P q) [
  | true ↦ λ is. subst P ((bytes_eq-Decides k q).0 is) (All-head P k ks all)
  | false ↦ λ is. any_key q ks P (or_false (is_eq (text_cmp q k)) _ (tested q k ∙ is) any) (All-tail P k ks all)
] refl

right_true : (a b : Bool) → b ≡ true → (a || b) ≡ true
right_true true b holds = refl
right_true false b holds = holds

any_at : (q : Bytes) (ks : List Bytes) (i : ℕ) → i < length ks → get_or ks i q ≡ q
    → list_any (λ k. is_eq (text_cmp q k)) ks ≡ true
any_at q [] i inside is = absurd (omega (arith, inside))
any_at q (k ∷ ks) zero inside is = ap (λ b. b || list_any (λ k. is_eq (text_cmp q k)) ks)
    (tested q k ∙ (bytes_eq-Decides k q).1 is)
any_at q (k ∷ ks) (suc i) inside is =
    right_true (is_eq (text_cmp q k)) _ (any_at q ks i (omega (arith, inside)) is)

-- no other name has options
pub alone_named : (options : Options) (join : Join) (field name : Bytes) → ChooseOne options join field
    → Contains (keys options.fields) name → Contains (field ∷ []) name
alone_named options join field name one in' = elim (bytes_eq name field) as (λ b. bytes_eq name field ≡ b
    → Contains (field ∷ []) name) [
      | true ↦ λ is. (0, lit< tt, sym ((bytes_eq-Decides name field).0 is))
      | false ↦ λ is. absurd (true≢false (sym (contains_key-keys options.fields name
          ∙ any_at name (keys options.fields) in'.0 in'.1 in'.2)
          ∙ ap is_some (one.alone name (λ same. true≢false (sym ((bytes_eq-Decides name field).1 same) ∙ is)))))
    ] refl

unlike : (x y : Bytes) → y ≢ x → bytes_eq x y ≡ false
unlike x y apart = elim (bytes_eq x y) as (λ b. bytes_eq x y ≡ b → bytes_eq x y ≡ false) [
  | true ↦ λ is. absurd (apart (sym ((bytes_eq-Decides x y).0 is)))
  | false ↦ λ is. is
] refl

-- options for no field
abbrev pub none_named : FieldMap
none_named = empty

-- options for one field alone choose it
pub one_named : (options : Options) (join : Join) (field : Bytes) (own : SearchOptionsField)
    → options.fields ≡ insert none_named field own → unwrap_or own.bool options.bool ≡ joined_as join
    → unwrap_or own.expand options.expand ≡ false → unwrap_or own.boost 1 ≢ 0 → ChooseOne options join field
one_named options join field own is joined itself counts = record {
  own = own;
  named = ap (λ m. get m field) is ∙ (get-insert nat_list_cmp_total none_named field own field
      ∙ ap (λ b. cond b (Some own) (get none_named field)) (tested field field ∙ (bytes_eq-Decides field field).1 refl));
  alone = λ name apart. ap (λ m. get m name) is ∙ (get-insert nat_list_cmp_total none_named field own name
      ∙ (ap (λ b. cond b (Some own) (get none_named name)) (tested name field ∙ unlike field name apart)
      ∙ get-empty text_cmp name));
  joined = joined;
  itself = itself;
  counts = counts;
}

module _ (options : Options) (contents : Contents) (join : Join) (field : Bytes) (one : ChooseOne options join field)
  where
    -- the field with this table, as the options choose it
    abbrev chosen : Table → Field
    chosen table = field_with options contents field table one.own.bool one.own.expand one.own.boost

    some_are_named : (len options.fields == 0) ≡ false
    some_are_named = not_zero (len options.fields) (λ none.
        let gone : get options.fields field ≡ None =
        ap (λ m. get m field) (empty_of_len options.fields none) ∙ get-empty text_cmp field in
        let both : Some one.own ≡ None = sym one.named ∙ gone in cc)

    its_field : (table : Table) → field_for options contents field table ≡ Some (chosen table)
    its_field table = ap (λ b. cond b (Some (field_with options contents field table None None None))
        (option_map (λ own. field_with options contents field table own.bool own.expand own.boost)
        (get options.fields field))) some_are_named
        ∙ ap (option_map (λ own. field_with options contents field table own.bool own.expand own.boost)) one.named

    no_other : (name : Bytes) (table : Table) → name ≢ field → field_for options contents name table ≡ None
    no_other name table apart = ap (λ b. cond b (Some (field_with options contents name table None None None))
        (option_map (λ own. field_with options contents name table own.bool own.expand own.boost)
        (get options.fields name))) some_are_named
        ∙ ap (option_map (λ own. field_with options contents name table own.bool own.expand own.boost))
        (one.alone name apart)

    none_chosen : (names : List Bytes) (tables : List Table) → has_name field names ≡ false
        → fields_for options contents (zip names tables) ≡ []
    none_chosen [] tables none = refl
    none_chosen (n ∷ ns) [] none = refl
    none_chosen (n ∷ ns) (t ∷ ts) none = elim (bytes_eq n field) as (λ b. bytes_eq n field ≡ b
        → (b || has_name field ns) ≡ false → fields_for options contents (zip (n ∷ ns) (t ∷ ts)) ≡ []) [
          | true ↦ λ is holds. absurd (true≢false holds)
          | false ↦ λ is more. ap (λ o. cons_option o (fields_for options contents (zip ns ts)))
              (no_other n t (λ same. true≢false (sym ((bytes_eq-Decides n field).1 same) ∙ is)))
              ∙ none_chosen ns ts more
        ] refl none

    -- of fields whose names differ, it is chosen alone
    pub one_chosen : (names : List Bytes) (tables : List Table) → all_differ names ≡ true
        → has_name field names ≡ true → length tables ≡ length names
        → (i : ℕ) × (table : Table) × (slice_get names i ≡ Some field) × (slice_get tables i ≡ Some table)
        × (fields_for options contents (zip names tables) ≡ chosen table ∷ [])
    one_chosen [] tables differ has many = absurd (true≢false (sym has))
    one_chosen (n ∷ ns) [] differ has many = absurd (omega (arith, many))
    one_chosen (n ∷ ns) (t ∷ ts) differ has many = elim (bytes_eq n field) as (λ b. bytes_eq n field ≡ b
        → (b || has_name field ns) ≡ true
        → (i : ℕ) × (table : Table) × (slice_get (n ∷ ns) i ≡ Some field) × (slice_get (t ∷ ts) i ≡ Some table)
        × (fields_for options contents (zip (n ∷ ns) (t ∷ ts)) ≡ chosen table ∷ [])) [
          | true ↦ λ is _.
              let same : n ≡ field = (bytes_eq-Decides n field).0 is in
              let alone : has_name field ns ≡ false = subst (λ m. has_name m ns ≡ false) same
              (no_longer (has_name n ns) (and_first (not (has_name n ns)) (all_differ ns) differ)) in (
                0,
                t,
                ap Some same,
                refl,
                ap (λ o. cons_option o (fields_for options contents (zip ns ts)))
                    (ap (λ m. field_for options contents m t) same ∙ its_field t)
                    ∙ ap (λ fs. chosen t ∷ fs) (none_chosen ns ts alone),
              )
          | false ↦ λ is more.
              let rest = one_chosen ns ts (and_second (not (has_name n ns)) (all_differ ns) differ) more
              (omega (arith, many)) in (
                suc rest.0,
                rest.1,
                rest.2,
                rest.3,
                ap (λ o. cons_option o (fields_for options contents (zip ns ts)))
                    (no_other n t (λ same. true≢false (sym ((bytes_eq-Decides n field).1 same) ∙ is)))
                    ∙ rest.4,
              )
        ] refl has

    -- it is among those that are named
    pub is_named : (P : Bytes → Type 0) → AllOf P (keys options.fields) → P field
    is_named P all = any_key field (keys options.fields) P
        (sym (contains_key-keys options.fields field) ∙ ap is_some one.named) all

-- ---- what is found

less_of : (r : Ordering) → T (is_lt r) → r ≡ Less
less_of Less h = refl
less_of r h = absurd h

first_of : (a b : Bool) → T (a && b) → T a
first_of true b h = tt
first_of false b h = h

second_of : (a b : Bool) → T (a && b) → T b
second_of true b h = h
second_of false b h = absurd h

references_above : (k : Bytes) (es : List (Bytes × Float)) → T (below_all text_cmp k es)
    → AllByRecursion (λ y. text_cmp k y ≡ Less) (map (λ e. e.0) es)
references_above k [] h = tt
references_above k (e ∷ es) h = (less_of (text_cmp k e.0) (first_of _ _ h), references_above k es (second_of _ _ h))

references_rise : (es : List (Bytes × Float)) → T (is_sorted text_cmp es)
    → IsStrictlySortedBy text_cmp (map (λ e. e.0) es)
unfolding IsStrictlySortedBy
references_rise [] h = tt
references_rise (e ∷ es) h = (references_above e.0 es (first_of _ _ h), references_rise es (second_of _ _ h))

-- what the ranking says of hits
abbrev pub HitsTell : Type 0
HitsTell = (field : Field) (tokens : List Text) (hits : List (Bytes × Float)) (r : Bytes) → IsPlain field
    → AreRanked (field ∷ []) tokens hits → Contains (map (λ hit. hit.0) hits) r
    ↔ HasTokens field.join field.table tokens r

-- In each lemma the commands of the calls leave a reference the tokens that it has after the calls.
module _ (reads : ℕ → Bytes → List Text → Type 0) (fields : List Bytes) (reference_field : Bytes) (calls : List Call)
    (commands : Commands) (postings_tell : PostingsTell)
    (same : (i : ℕ) (r : Bytes) (token : Text) → HasToken commands i r token ↔ HasReadToken reads commands i r token)
    (tell : (i : ℕ) (r : Bytes) (token : Text) → HasReadToken reads commands i r token
    ↔ HasTokenAfter reads fields reference_field calls i r token) where
  module _ (i : ℕ) (table : Table) (is : IsTableOf commands i table) (query : Bytes) (tokens : List Text)
      (are : AreTokensOf reads i query tokens) (r : Bytes) where
    posted : (token : Text) → IsSome (posting table token r)
        ↔ ((token ≢ []) × HasTokenAfter reads fields reference_field calls i r token)
    posted token = (
      λ some. let has = (postings_tell commands i table token r is).0 some in
          (has.0, (tell i r token).0 ((same i r token).0 has.1)),
      λ has. (postings_tell commands i table token r is).1 (has.0, (same i r token).1 ((tell i r token).1 has.1)),
    )

    found_as : (join : Join) → HasTokens (joined_as join) table tokens r
        ↔ IsFoundAfter reads fields reference_field calls join i query r
    found_as Any = (
      λ has. (has.0, (asks reads i query tokens are has.0).1 has.1, ((posted has.0).0 has.2).1),
      λ found. (
        found.0,
        (asks reads i query tokens are found.0).0 found.1,
        (posted found.0).1 (found.1.0, found.2),
      ),
    )
    found_as All = (
      λ has. (
        some_token reads i query tokens are tokens refl has.0,
        λ token asked. ((posted token).0 (has.1 token ((asks reads i query tokens are token).0 asked))).1,
      ),
      λ found. (
        not_none reads i query tokens are found.0.0 ((asks reads i query tokens are found.0.0).0 found.0.1),
        λ token in'. let asked = (asks reads i query tokens are token).1 in' in
            (posted token).1 (asked.0, found.1 token asked),
      ),
    )

  -- what is ranked in the field that the options choose is found there
  pub ranks_after : HitsTell → (plan : Plan) (names : List Bytes) (tables : List Table) (contents : Contents)
      → plan.fields ≡ fields → ArePartsOf plan commands names tables contents → IsTrue (all_differ plan.fields)
      → (join : Join) (field query : Bytes) (options : Options) (hits : List (Bytes × Float))
      → ChooseOne options join field → AllOf (λ name. IsTrue (has_name name names)) (keys options.fields)
      → (tokens : List Text) → ((i : ℕ) → AreTokensOf reads i query tokens)
      → AreRanked (fields_for options contents (zip names tables)) tokens hits
      → RanksAfter reads fields reference_field calls join field query hits
  ranks_after hits_tell plan names tables contents of_plan parts differ join field query options hits one named tokens
      asked ranked =
      let at = one_chosen options contents join field one names tables
      (subst (λ ns. all_differ ns ≡ true) (sym parts.fields) differ)
      (is_named options contents join field one (λ name. IsTrue (has_name name names)) named)
      (parts.holds.one_each ∙ sym (ap length parts.fields)) in
      let its = chosen options contents join field one at.1 in
      let alone : AreRanked (its ∷ []) tokens hits = subst (λ fs. AreRanked fs tokens hits) at.4 ranked in
      let is = table_at commands at.0 _ at.1 at.3 (parts.holds.each at.0) in
      let name = λ (hit : Bytes × Float). hit.0 in
      let moves = IsPermutation-map name alone.scores hits alone.each in (
        map name alone.scores,
        (
          at.0,
          subst (λ ns. slice_get ns at.0 ≡ Some field) (parts.fields ∙ of_plan) at.2,
          record {
            sorted = references_rise alone.scores alone.are.in_order;
            exact =
                λ r.
                let have = hits_tell its tokens hits r (one.itself, one.counts) alone in
                let found = found_as at.0 at.1 is query tokens (asked at.0) r join in
                let by = subst (λ j. HasTokens j at.1 tokens r
                ↔ IsFoundAfter reads fields reference_field calls join at.0 query r) (sym one.joined) found in (
                  λ in'. by.0 (have.0 (Contains-permutation (map name alone.scores) (map name hits) r moves in')),
                  λ after. Contains-permutation (map name hits) (map name alone.scores) r
                      (IsPermutation-sym (map name alone.scores) (map name hits) moves)
                      (have.1 (by.1 after)),
                );
          },
        ),
        moves,
      )
