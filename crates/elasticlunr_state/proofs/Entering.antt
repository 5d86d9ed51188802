-- A document instead of what its reference had, from the parts of the work.
use Rattle.std.proofs.Common.{◌≡◌, ◌≢◌, inl, inr, ℕ, zero, suc, ◌+◌, ◌≤◌, ◌<◌, List, [], ◌∷◌, ◌++◌, length, map, arith}
use Rattle.std.proofs.Common.{Bool, true, false, not, cond, Option, None, Some, IfSome, option_map, option_and_then}
use Rattle.std.proofs.Common.{true≢false, bytes_eq, refl, sym, ap, subst, ◌∙◌}
use Rattle.std.specs.Prelude.{IsSome, IsTrue}
use Rattle.std.specs.List.{slice_get, zip}
use Rattle.std.specs.FinMap as finite
use Rattle.std.specs.Cmp.Lexicographic.{nat_list_cmp_total}
use Rattle.std.proofs.lemmas.Slice.Eq.{bytes_eq-Decides}
use Rattle.std.proofs.lemmas.Map.Text.{is_eq-slice_cmp}
use Rattle.std.proofs.lemmas.Option.{slice_get_past}
use Rattle.std.specs.Option.{is_some}
use Rattle.elasticlunr_error.specs.Text.{Text, Bytes, text_cmp}
use Rattle.elasticlunr_trie.specs.Table.{Table, posting}
use Rattle.elasticlunr_store.specs.Contents.{Contents, TextMap, IsConsistent, length_at, with_document, with_length}
use Rattle.elasticlunr_store.specs.Contents.{without}
use Rattle.elasticlunr_commands.specs.Fields.{has_name, all_differ}
use Rattle.elasticlunr_commands.specs.History.{Given, Document, add, Commands, ◌▸◌}
use Rattle.elasticlunr_commands.specs.Standing.{Plan, tokens_at, stored, length_in, Holds}
use Rattle.elasticlunr_commands.specs.Entered.{IsMadeOf, TakesOut, ReplacesPostings, HasOnlyStored, MakesRoom}
use Rattle.elasticlunr_commands.specs.Entered.{AddsTokens}
use Rattle.elasticlunr_state.specs.Texts.{reference_alone, with_texts, with_tokens, with_all_tokens}
use Rattle.elasticlunr_commands.proofs.Adding.{Enters, same, apart, either, both_some, holds_entered}
use Rattle.elasticlunr_state.proofs.Counting.{mapped_back}
use Rattle.elasticlunr_state.proofs.Pairing.{FoundIn, early, late, found, within_list}
use Rattle.std.proofs.lemmas.List.{length_push}
use Rattle.elasticlunr_commands.proofs.Naming.{turned, both_false, both_true}
use Rattle.elasticlunr_state.proofs.Storing.{found_after_insert, found_after_remove, length_after, length_without}
use Rattle.elasticlunr_state.proofs.Storing.{without_are_contents, with_length_are_contents, with_document_are_contents}

-- the first of two that is there
abbrev or_else : {X : Type 0} → Option X → Option X → Option X
or_else None o = o
or_else (Some x) o = Some x

-- what a name of the fields stands beside, the first time
abbrev named : {X : Type 0} → List Bytes → List X → Bytes → Option X
named fields [] name = None
named [] (x ∷ xs) name = None
named (field ∷ fields) (x ∷ xs) name = cond (bytes_eq name field) (Some x) (named fields xs name)

flip : (b : Bool) → not b ≡ true → b ≡ false
flip true e = absurd (true≢false (sym e))
flip false e = refl

-- names that differ: the first is not among the others
first_differs : (field : Bytes) (fields : List Bytes) → all_differ (field ∷ fields) ≡ true
    → (has_name field fields ≡ false) × (all_differ fields ≡ true)
first_differs field fields differ = let parts = both_true _ _ differ in (flip (has_name field fields) parts.0, parts.1)

named_absent : {X : Type 0} (fields : List Bytes) (xs : List X) (name : Bytes) → has_name name fields ≡ false
    → named fields xs name ≡ None
named_absent fields [] name absent = refl
named_absent [] (x ∷ xs) name absent = refl
named_absent (field ∷ fields) (x ∷ xs) name absent =
    let parts = both_false _ _ absent in
    ap (λ b. cond b (Some x) (named fields xs name)) (turned field name false parts.0)
    ∙ named_absent fields xs name parts.1

-- the texts that were put in
found_with_texts : (texts : TextMap) (fields values : List Bytes) (q : Bytes) → all_differ fields ≡ true
    → finite.get (with_texts texts fields values) q ≡ or_else (named fields values q) (finite.get texts q)
found_with_texts texts fields [] q differ = refl
found_with_texts texts [] (value ∷ values) q differ = refl
found_with_texts texts (field ∷ fields) (value ∷ values) q differ =
    let parts = first_differs field fields differ in
    found_with_texts (finite.insert texts field value) fields values q parts.1
    ∙ ap (or_else (named fields values q)) (found_after_insert texts field value q)
    ∙ by_test (bytes_eq q field) refl parts.0 where
      by_test : (b : Bool) → bytes_eq q field ≡ b → has_name field fields ≡ false
          → or_else (named fields values q) (cond b (Some value) (finite.get texts q))
          ≡ or_else (cond b (Some value) (named fields values q)) (finite.get texts q)
      by_test true e absent = ap (λ o. or_else o (Some value))
          (named_absent fields values q (subst (λ n. has_name n fields ≡ false) (sym (same q field e)) absent))
      by_test false e absent = refl

found_in_zip : (fields values : List Bytes) (field reference q : Bytes)
    → finite.find text_cmp q (zip fields values ++ (field, reference) ∷ [])
    ≡ or_else (named fields values q) (cond (bytes_eq q field) (Some reference) None)
found_in_zip [] [] field reference q = ap (λ b. cond b (Some reference) None) (is_eq-slice_cmp q field)
found_in_zip [] (value ∷ values) field reference q = ap (λ b. cond b (Some reference) None) (is_eq-slice_cmp q field)
found_in_zip (f ∷ fields) [] field reference q = ap (λ b. cond b (Some reference) None) (is_eq-slice_cmp q field)
found_in_zip (f ∷ fields) (value ∷ values) field reference q =
    ap (λ b. cond b (Some value) (finite.find text_cmp q (zip fields values ++ (field, reference) ∷ [])))
    (is_eq-slice_cmp q f)
    ∙ ap (cond (bytes_eq q f) (Some value)) (found_in_zip fields values field reference q)
    ∙ by_test (bytes_eq q f) where
      by_test : (b : Bool) → cond b (Some value)
          (or_else (named fields values q) (cond (bytes_eq q field) (Some reference) None))
          ≡ or_else (cond b (Some value) (named fields values q)) (cond (bytes_eq q field) (Some reference) None)
      by_test true = refl
      by_test false = refl

texts_are_stored : (field reference : Bytes) (fields values : List Bytes) → all_differ fields ≡ true
    → with_texts (reference_alone field reference) fields values
    ≡ finite.from_entries (zip fields values ++ (field, reference) ∷ [])
texts_are_stored field reference fields values differ =
    finite.same_map nat_list_cmp_total (finite.slice_cmp-IsAntisymmetric finite.nat_cmp-IsAntisymmetric) _ _ (λ q.
    found_with_texts (reference_alone field reference) fields values q differ
    ∙ ap (or_else (named fields values q)) (found_after_insert finite.empty field reference q
    ∙ ap (cond (bytes_eq q field) (Some reference)) (finite.get-empty text_cmp q))
    ∙ sym (finite.get-from_entries nat_list_cmp_total (zip fields values ++ (field, reference) ∷ []) q
    ∙ found_in_zip fields values field reference q))

-- the lengths that were put in
abbrev length_named : List Bytes → List (Option (List Text)) → Bytes → Option ℕ
length_named fields tokens name = option_and_then (option_map length) (named fields tokens name)

length_is_named : (fields : List Bytes) (given : List Given) (name : Bytes) → length_in fields given name
    ≡ length_named fields (map (λ g. g.tokens) given) name
length_is_named [] [] name = refl
length_is_named [] (g ∷ given) name = refl
length_is_named (field ∷ fields) [] name = refl
length_is_named (field ∷ fields) (g ∷ given) name = ap (cond (bytes_eq name field) (option_map length g.tokens))
    (length_is_named fields given name) ∙ by_test (bytes_eq name field) where
      by_test : (b : Bool) → cond b (option_map length g.tokens) (length_named fields (map (λ h. h.tokens) given) name)
          ≡ option_and_then (option_map length) (cond b (Some g.tokens) (named fields (map (λ h. h.tokens) given) name))
      by_test true = refl
      by_test false = refl

lengths_are_set : (c : Contents) (reference : Bytes) (fields : List Bytes) (tokens : List (Option (List Text)))
    (r name : Bytes) → all_differ fields ≡ true
    → length_at (with_all_tokens c reference fields tokens) r name
    ≡ cond (bytes_eq r reference) (or_else (length_named fields tokens name) (length_at c reference name))
    (length_at c r name)
lengths_are_set c reference fields [] r name differ = by_test (bytes_eq r reference) refl where
  by_test : (b : Bool) → bytes_eq r reference ≡ b → length_at c r name
      ≡ cond b (length_at c reference name) (length_at c r name)
  by_test true e = ap (λ q. length_at c q name) (same r reference e)
  by_test false e = refl
lengths_are_set c reference [] (t ∷ tokens) r name differ = by_test (bytes_eq r reference) refl where
  by_test : (b : Bool) → bytes_eq r reference ≡ b → length_at c r name
      ≡ cond b (length_at c reference name) (length_at c r name)
  by_test true e = ap (λ q. length_at c q name) (same r reference e)
  by_test false e = refl
lengths_are_set c reference (field ∷ fields) (t ∷ tokens) r name differ =
    lengths_are_set (with_tokens c reference field t) reference fields tokens r name
    (first_differs field fields differ).1 ∙ of_tokens t where
      length_first : (t : Option (List Text)) (q : Bytes) → length_at (with_tokens c reference field t) q name
          ≡ cond (bytes_eq q reference) (cond (bytes_eq name field)
          (or_else (option_map length t) (length_at c reference name)) (length_at c reference name))
          (length_at c q name)
      length_first None q = by_test (bytes_eq q reference) (bytes_eq name field) refl where
        by_test : (b d : Bool) → bytes_eq q reference ≡ b → length_at c q name
            ≡ cond b (cond d (length_at c reference name) (length_at c reference name)) (length_at c q name)
        by_test true true e = ap (λ x. length_at c x name) (same q reference e)
        by_test true false e = ap (λ x. length_at c x name) (same q reference e)
        by_test false d e = refl
      length_first (Some these) q = length_after c reference field (length these) q name

      of_tokens : (t : Option (List Text)) → cond (bytes_eq r reference)
          (or_else (length_named fields tokens name) (length_at (with_tokens c reference field t) reference name))
          (length_at (with_tokens c reference field t) r name)
          ≡ cond (bytes_eq r reference) (or_else (length_named (field ∷ fields) (t ∷ tokens) name)
          (length_at c reference name)) (length_at c r name)
      of_tokens t = by_test (bytes_eq r reference) refl where
        own : length_at (with_tokens c reference field t) reference name
            ≡ cond (bytes_eq name field) (or_else (option_map length t) (length_at c reference name))
            (length_at c reference name)
        own = length_first t reference ∙ ap (λ b. cond b
            (cond (bytes_eq name field) (or_else (option_map length t) (length_at c reference name))
            (length_at c reference name)) (length_at c reference name))
            ((bytes_eq-Decides reference reference).1 refl)

        by_name : (d : Bool) → bytes_eq name field ≡ d
            → or_else (length_named fields tokens name)
            (cond d (or_else (option_map length t) (length_at c reference name)) (length_at c reference name))
            ≡ or_else (option_and_then (option_map length) (cond d (Some t) (named fields tokens name)))
            (length_at c reference name)
        by_name true e = ap (λ o. or_else (option_and_then (option_map length) o)
            (or_else (option_map length t) (length_at c reference name)))
            (named_absent fields tokens name (subst (λ n. has_name n fields ≡ false) (sym (same name field e))
            (first_differs field fields differ).0))
        by_name false e = refl

        by_test : (b : Bool) → bytes_eq r reference ≡ b
            → cond b (or_else (length_named fields tokens name) (length_at (with_tokens c reference field t) reference
            name)) (length_at (with_tokens c reference field t) r name)
            ≡ cond b (or_else (length_named (field ∷ fields) (t ∷ tokens) name) (length_at c reference name))
            (length_at c r name)
        by_test true e = ap (or_else (length_named fields tokens name)) own ∙ by_name (bytes_eq name field) refl
        by_test false e = length_first t r ∙ ap
            (λ b. cond b (cond (bytes_eq name field) (or_else (option_map length t) (length_at c reference name))
            (length_at c reference name)) (length_at c r name)) e

save_stays : (c : Contents) (reference : Bytes) (fields : List Bytes) (tokens : List (Option (List Text)))
    → (with_all_tokens c reference fields tokens).save ≡ c.save
save_stays c reference fields [] = refl
save_stays c reference [] (t ∷ tokens) = refl
save_stays c reference (field ∷ fields) (None ∷ tokens) = save_stays c reference fields tokens
save_stays c reference (field ∷ fields) (Some t ∷ tokens) = save_stays (with_length c reference field (length t))
    reference fields tokens

texts_stay : (c : Contents) (reference : Bytes) (fields : List Bytes) (tokens : List (Option (List Text)))
    → (with_all_tokens c reference fields tokens).texts ≡ c.texts
texts_stay c reference fields [] = refl
texts_stay c reference [] (t ∷ tokens) = refl
texts_stay c reference (field ∷ fields) (None ∷ tokens) = texts_stay c reference fields tokens
texts_stay c reference (field ∷ fields) (Some t ∷ tokens) = texts_stay (with_length c reference field (length t))
    reference fields tokens

stay_contents : (c : Contents) (reference : Bytes) (fields : List Bytes) (tokens : List (Option (List Text)))
    → IsConsistent c → IsConsistent (with_all_tokens c reference fields tokens)
stay_contents c reference fields [] was = was
stay_contents c reference [] (t ∷ tokens) was = was
stay_contents c reference (field ∷ fields) (None ∷ tokens) was = stay_contents c reference fields tokens was
stay_contents c reference (field ∷ fields) (Some t ∷ tokens) was =
    stay_contents (with_length c reference field (length t)) reference fields tokens
    (with_length_are_contents c reference field (length t) was)

-- tokens replace the postings that were taken out
replaces_after : (old mid new : Table) (reference : Bytes) (tokens : Option (List Text)) → TakesOut old mid reference
    → ReplacesPostings mid new reference tokens → ReplacesPostings old new reference tokens
replaces_after old mid new reference tokens out in_place = record {
  known = λ text. (
    λ k. either (λ before. inl (subst IsTrue (out.known text) before)) inr ((in_place.known text).0 k),
    λ k. (in_place.known text).1 (either (λ before. inl (subst IsTrue (sym (out.known text)) before)) inr k),
  );
  its_own = in_place.its_own;
  others = λ token other differs. in_place.others token other differs ∙ out.others token other differs;
  no_empty = λ r absent. in_place.no_empty r (by_test r absent (bytes_eq r reference) refl);
} where
  by_test : (r : Bytes) → posting old [] r ≡ None → (b : Bool) → bytes_eq r reference ≡ b → posting mid [] r ≡ None
  by_test r absent true e = ap (posting mid []) (same r reference e) ∙ out.its_own []
  by_test r absent false e = out.others [] r (apart r reference e) ∙ absent

pub replaces_nothing : (table : Table) (reference : Bytes) → ((token : Text) → posting table token reference ≡ None)
    → ReplacesPostings table table reference None
replaces_nothing table reference none = record {
  known = λ text. (inl, either (λ k. k) (λ b. absurd b));
  its_own = λ token there. none token;
  others = λ token other differs. refl;
  no_empty = λ r absent. absent;
}

-- where a list ends
none_past : {A : Type 0} (xs : List A) (i : ℕ) → slice_get xs i ≡ None → length xs ≤ i
none_past [] i e = omega arith
none_past (x ∷ xs) zero e = cc (e)
none_past (x ∷ xs) (suc i) e = let later = none_past xs i e in omega (arith, later)

pub length-mapped : {A B : Type 0} (f : A → B) (xs : List A) → length (map f xs) ≡ length xs
length-mapped f [] = refl
length-mapped f (x ∷ xs) = ap suc (length-mapped f xs)

pub some_from : {A : Type 0} (o : Option A) → IsSome o → (x : A) × (o ≡ Some x)
some_from None there = absurd (true≢false (sym there))
some_from (Some x) there = (x, refl)

pub is_some_from : {A : Type 0} (o : Option A) (x : A) → o ≡ Some x → IsSome o
is_some_from None x e = cc (e)
is_some_from (Some y) x e = refl

-- one more field
pub adds_none : (reference : Bytes) (tables : List Table) → AddsTokens reference [] tables tables
adds_none reference tables = record {
  as_many = refl;
  with_tokens = λ i before after these eb ea e. cc (e);
  without_tokens = λ i past. refl;
}

pub adds_more : (reference : Bytes) (tokens : List (Option (List Text))) (n : ℕ) (these : Option (List Text))
    (old_tables mid_tables new_tables : List Table) → n ≡ length tokens
    → AddsTokens reference tokens old_tables mid_tables
    → length new_tables ≡ length mid_tables
    → ((before after : Table) → slice_get mid_tables n ≡ Some before → slice_get new_tables n ≡ Some after
    → ((token : Text) → posting before token reference ≡ None) → ReplacesPostings before after reference these)
    → ((j : ℕ) → j ≢ n → slice_get new_tables j ≡ slice_get mid_tables j)
    → AddsTokens reference (tokens ++ these ∷ []) old_tables new_tables
adds_more reference tokens n these old_tables mid_tables new_tables at so_far many here elsewhere = record {
  as_many = many ∙ so_far.as_many;
  with_tokens = λ i before after texts eb ea e none. by_place i before after texts eb ea none
      (found tokens these texts i e);
  without_tokens = λ i past. let past_all : length tokens + 1 ≤ i = subst (λ k. k ≤ i) (length_push tokens these) past
      in
      elsewhere i (λ is. absurd (omega (arith, past_all, is, at))) ∙ so_far.without_tokens i (omega (arith, past_all));
} where
  by_place : (i : ℕ) (before after : Table) (texts : Option (List Text)) → slice_get old_tables i ≡ Some before
      → slice_get new_tables i ≡ Some after → ((token : Text) → posting before token reference ≡ None)
      → FoundIn tokens these texts i → ReplacesPostings before after reference texts
  by_place i before after texts eb ea none (early e) =
      let inside : i < length tokens = within_list tokens i texts e in
      so_far.with_tokens i before after texts eb (sym (elsewhere i (λ is. absurd (omega (arith, inside, is, at)))) ∙ ea)
      e none
  by_place i before after texts eb ea none (late place is) =
      let there : i ≡ n = place ∙ sym at in
      let unchanged : slice_get mid_tables i ≡ Some before = so_far.without_tokens i (omega (arith, place)) ∙ eb in
      subst (ReplacesPostings before after reference) is
      (here before after (subst (λ k. slice_get mid_tables k ≡ Some before) there unchanged)
      (subst (λ k. slice_get new_tables k ≡ Some after) there ea) none)

pub one_more_field : (c : Contents) (reference : Bytes) (fields : List Bytes) (tokens : List (Option (List Text)))
    (field : Bytes) (these : Option (List Text)) → slice_get fields (length tokens) ≡ Some field
    → with_tokens (with_all_tokens c reference fields tokens) reference field these
    ≡ with_all_tokens c reference fields (tokens ++ these ∷ [])
one_more_field c reference [] [] field these e = cc (e)
one_more_field c reference [] (t ∷ tokens) field these e = cc (e)
one_more_field c reference (f ∷ fields) [] field these e = let is : f
    ≡ field = cc (e) in ap (λ g. with_tokens c reference g these) (sym is)
    ∙ sym (alone fields (with_tokens c reference f these)) where
      alone : (fields : List Bytes) (d : Contents) → with_all_tokens d reference fields [] ≡ d
      alone fields d = refl
one_more_field c reference (f ∷ fields) (t ∷ tokens) field these e = one_more_field (with_tokens c reference f t)
    reference fields tokens field these e

pub one_more_text : (texts : TextMap) (fields values : List Bytes) (field value : Bytes)
    → slice_get fields (length values) ≡ Some field
    → finite.insert (with_texts texts fields values) field value ≡ with_texts texts fields (values ++ value ∷ [])
one_more_text texts [] [] field value e = cc (e)
one_more_text texts [] (v ∷ values) field value e = cc (e)
one_more_text texts (f ∷ fields) [] field value e = let is : f ≡ field = cc (e) in ap (λ g. finite.insert texts g value)
    (sym is)
one_more_text texts (f ∷ fields) (v ∷ values) field value e = one_more_text (finite.insert texts f v) fields values
    field value e

module _ (plan : Plan) (document : Document) (reference : Bytes) (values : List Bytes)
    (tokens : List (Option (List Text))) (made : IsMadeOf document reference values tokens) where
  tokens_there : (i : ℕ) (texts : Option (List Text)) → slice_get tokens i ≡ Some texts → tokens_at i document ≡ texts
  tokens_there i texts e =
      let given = mapped_back (λ g. g.tokens) document.given i texts (ap (λ ts. slice_get ts i) made.its_tokens ∙ e) in
      ap (option_and_then (λ g. g.tokens)) given.1 ∙ given.2

  no_tokens_there : (i : ℕ) → slice_get tokens i ≡ None → tokens_at i document ≡ None
  no_tokens_there i e =
      let past : length tokens ≤ i = none_past tokens i e in
      let as_many : length document.given ≡ length tokens = sym (length-mapped (λ g. g.tokens) document.given)
      ∙ ap length made.its_tokens in
      ap (option_and_then (λ g. g.tokens)) (slice_get_past document.given i (omega arith))

  tables_entered : (old_tables mid_tables new_tables : List Table) (old mid : Contents) → length mid_tables
      ≡ length old_tables
      → MakesRoom reference old_tables mid_tables old mid → AddsTokens reference tokens mid_tables new_tables
      → (i : ℕ) (before after : Table) → slice_get old_tables i ≡ Some before → slice_get new_tables i ≡ Some after
      → ReplacesPostings before after document.reference (tokens_at i document)
  tables_entered old_tables mid_tables new_tables old mid many room step i before after eb ea =
      let between = some_from (slice_get mid_tables i)
      (both_some mid_tables old_tables i many (is_some_from _ before eb)) in
      let out = room.tables i before between.0 eb between.1 in
      subst (λ r. ReplacesPostings before after r (tokens_at i document)) (sym made.its_reference)
      (by_tokens between.0 between.1 out (slice_get tokens i) refl) where
        by_tokens : (m : Table) → slice_get mid_tables i ≡ Some m → TakesOut before m reference
            → (o : Option (Option (List Text))) → slice_get tokens i ≡ o
            → ReplacesPostings before after reference (tokens_at i document)
        by_tokens m em out (Some texts) e = subst (ReplacesPostings before after reference)
            (sym (tokens_there i texts e))
            (replaces_after before m after reference texts out (step.with_tokens i m after texts em ea e out.its_own))
        by_tokens m em out None e =
            let stays : m ≡ after = cc (em, ea, step.without_tokens i (none_past tokens i e)) in
            subst (ReplacesPostings before after reference) (sym (no_tokens_there i e))
            (subst (λ t. ReplacesPostings before t reference None) stays
            (replaces_after before m m reference None out (replaces_nothing m reference out.its_own)))

  pub enters_in_place : (old_tables mid_tables new_tables : List Table) (old mid : Contents) (texts : TextMap)
      → IsTrue (all_differ plan.fields) → plan.save ≡ old.save → length mid_tables ≡ length old_tables
      → MakesRoom reference old_tables mid_tables old mid → AddsTokens reference tokens mid_tables new_tables
      → ((with_all_tokens mid reference plan.fields tokens).save ≡ true → texts
      ≡ with_texts (reference_alone plan.reference_field reference) plan.fields values)
      → Enters plan document old_tables new_tables old (with_document (with_all_tokens mid reference plan.fields tokens)
      reference texts)
  enters_in_place old_tables mid_tables new_tables old mid texts differ save many room step are = record {
    as_many = step.as_many ∙ many;
    tables = tables_entered old_tables mid_tables new_tables old mid many room step;
    kept = λ was. with_document_are_contents lengthened reference texts
        (stay_contents mid reference plan.fields tokens (room.kept was));
    save = save_stays mid reference plan.fields tokens ∙ room.save;
    texts = λ r. found_after_insert lengthened.texts reference (cond lengthened.save texts finite.empty) r
        ∙ texts_by_test r (bytes_eq r reference) refl
        ∙ ap (λ q. cond (bytes_eq r q) (Some (stored plan document)) (finite.get old.texts r))
        (sym made.its_reference);
    lengths = λ r field. lengths_are_set mid reference plan.fields tokens r field differ
        ∙ lengths_by_test r field (bytes_eq r reference) refl
        ∙ ap (λ q. cond (bytes_eq r q) (length_in plan.fields document.given field) (length_at old r field))
        (sym made.its_reference);
  } where
    lengthened : Contents
    lengthened = with_all_tokens mid reference plan.fields tokens

    stored_is : (b : Bool) → old.save ≡ b → cond b texts finite.empty ≡ stored plan document
    stored_is true e = are (save_stays mid reference plan.fields tokens ∙ room.save ∙ e)
        ∙ texts_are_stored plan.reference_field reference plan.fields values differ
        ∙ ap (λ vs. finite.from_entries (zip plan.fields vs ++ (plan.reference_field, reference) ∷ []))
        (sym made.its_values)
        ∙ ap (λ r. finite.from_entries (zip plan.fields (map (λ g. g.value) document.given) ++ (plan.reference_field, r)
        ∷ [])) (sym made.its_reference)
        ∙ ap (λ b. cond b (finite.from_entries
        (zip plan.fields (map (λ g. g.value) document.given) ++ (plan.reference_field, document.reference) ∷ []))
        finite.empty) (sym (save ∙ e))
    stored_is false e = ap (λ b. cond b (finite.from_entries
        (zip plan.fields (map (λ g. g.value) document.given) ++ (plan.reference_field, document.reference) ∷ []))
        finite.empty) (sym (save ∙ e))

    texts_by_test : (r : Bytes) (b : Bool) → bytes_eq r reference ≡ b
        → cond b (Some (cond (with_all_tokens mid reference plan.fields tokens).save texts finite.empty))
        (finite.get (with_all_tokens mid reference plan.fields tokens).texts r)
        ≡ cond b (Some (stored plan document)) (finite.get old.texts r)
    texts_by_test r true e = ap (λ b. Some (cond b texts finite.empty)) (save_stays mid reference plan.fields tokens
        ∙ room.save) ∙ ap Some (stored_is old.save refl)
    texts_by_test r false e = ap (λ m. finite.get m r) (texts_stay mid reference plan.fields tokens) ∙ room.texts r e

    no_length : (field : Bytes) → length_at mid reference field ≡ None
    no_length field = room.lengths reference field ∙ ap (λ b. cond b None (length_at old reference field))
        ((bytes_eq-Decides reference reference).1 refl)

    or_none : {X : Type 0} (o : Option X) → or_else o None ≡ o
    or_none None = refl
    or_none (Some x) = refl

    lengths_by_test : (r field : Bytes) (b : Bool) → bytes_eq r reference ≡ b
        → cond b (or_else (length_named plan.fields tokens field) (length_at mid reference field))
        (length_at mid r field) ≡ cond b (length_in plan.fields document.given field) (length_at old r field)
    lengths_by_test r field true e =
        ap (or_else (length_named plan.fields tokens field)) (no_length field) ∙ or_none _
        ∙ ap (λ ts. length_named plan.fields ts field) (sym made.its_tokens)
        ∙ sym (length_is_named plan.fields document.given field)
    lengths_by_test r field false e = room.lengths r field ∙ ap (λ b. cond b None (length_at old r field)) e

-- room was made by taking out, or was there
pub room_taken : (reference : Bytes) (old_tables new_tables : List Table) (old : Contents)
    → ((i : ℕ) (before after : Table) → slice_get old_tables i ≡ Some before → slice_get new_tables i ≡ Some after
    → TakesOut before after reference)
    → MakesRoom reference old_tables new_tables old (without old reference)
room_taken reference old_tables new_tables old each = record {
  tables = each;
  kept = without_are_contents old reference;
  save = refl;
  texts = λ r e. found_after_remove old.texts reference r ∙ ap (λ b. cond b None (finite.get old.texts r)) e;
  lengths = length_without old reference;
}

pub room_there : (reference : Bytes) (tables : List Table) (contents : Contents)
    → HasOnlyStored tables contents reference → is_some (finite.get contents.texts reference) ≡ false
    → MakesRoom reference tables tables contents contents
room_there reference tables contents only absent = record {
  tables = λ i before after eb ea. subst (λ t. TakesOut before t reference) (cc (eb, ea))
      (same_table before (subst (λ o. IfSome o (λ table. (token : Text) → posting table token reference ≡ None)) eb
      (only.postings no_texts i)));
  kept = λ was. was;
  save = refl;
  texts = λ r e. refl;
  lengths = λ r field. by_test r field (bytes_eq r reference) refl;
} where
  none_from : (o : Option TextMap) → is_some o ≡ false → o ≡ None
  none_from None e = refl
  none_from (Some texts) e = absurd (true≢false e)

  no_texts : finite.get contents.texts reference ≡ None
  no_texts = none_from _ absent

  same_table : (table : Table) → ((token : Text) → posting table token reference ≡ None)
      → TakesOut table table reference
  same_table table none = record { known = λ text. refl; its_own = none; others = λ token other differs. refl }

  by_test : (r field : Bytes) (b : Bool) → bytes_eq r reference ≡ b → length_at contents r field
      ≡ cond b None (length_at contents r field)
  by_test r field true e = ap (λ q. length_at contents q field) (same r reference e) ∙ only.lengths no_texts field
  by_test r field false e = refl

-- the whole of the work
pub holds_after : (plan : Plan) (document : Document) (commands : Commands) (fields : List Bytes)
    (field reference : Bytes) (values : List Bytes) (tokens : List (Option (List Text)))
    (old_tables mid_tables new_tables : List Table) (old mid longer new : Contents) (texts : TextMap)
    → plan.fields ≡ fields → IsTrue (all_differ plan.fields) → plan.reference_field ≡ field
    → IsMadeOf document reference values tokens → Holds plan commands old_tables old
    → length mid_tables ≡ length old_tables
    → (HasOnlyStored old_tables old reference → MakesRoom reference old_tables mid_tables old mid)
    → AddsTokens reference tokens mid_tables new_tables
    → longer ≡ with_all_tokens mid reference fields tokens
    → (longer.save ≡ true → texts ≡ with_texts (reference_alone field reference) fields values) → new
    ≡ with_document longer reference texts
    → Holds plan (commands ▸ add document) new_tables new
holds_after plan document commands fields field reference values tokens old_tables mid_tables new_tables old mid longer
    new texts its_fields differ its_field made held many room adds longer_is are new_is =
    let longer_from : longer ≡ with_all_tokens mid reference plan.fields tokens = longer_is
    ∙ ap (λ fs. with_all_tokens mid reference fs tokens) (sym its_fields) in
    subst (λ c. Holds plan (commands ▸ add document) new_tables c)
    (sym (new_is ∙ ap (λ c. with_document c reference texts) longer_from))
    (holds_entered commands document plan old_tables new_tables old _ held (λ only.
    enters_in_place plan document reference values tokens made old_tables mid_tables new_tables old mid texts differ
    (sym held.store.save) many
    (room (subst (HasOnlyStored old_tables old) made.its_reference only)) adds
    (λ saved. are (ap (λ c. c.save) longer_from ∙ saved)
    ∙ ap (λ f. with_texts (reference_alone f reference) fields values) (sym its_field)
    ∙ ap (λ fs. with_texts (reference_alone plan.reference_field reference) fs values) (sym its_fields))))
