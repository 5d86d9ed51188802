-- What a builder was given, field by field.
use Rattle.std.proofs.Common.{◌≡◌, ◌≢◌, ℕ, zero, suc, List, [], ◌∷◌, ◌++◌, ◌+◌, ◌<◌, length, take, get_or, arith, map}
use Rattle.std.proofs.Common.{Bool, true, false, true≢false, not, ◌&&◌, ◌||◌, Option, None, Some, bytes_eq, refl, sym}
use Rattle.std.proofs.Common.{ap, subst, ◌∙◌, append_assoc}
use Rattle.std.proofs.lemmas.Slice.Eq.{bytes_eq-Decides}
use Rattle.std.proofs.lemmas.List.{take_more}
use Rattle.std.specs.Borrow.{Bor}
use Rattle.std.specs.Prelude.{IfNone}
use Rattle.std.specs.List.{slice_get}
use Rattle.elasticlunr_text.specs.Text.{Text, Bytes}
use Rattle.elasticlunr.specs.Choices.{Choices, beginning, with_field, with_fields, UsesLanguage}
use Rattle.elasticlunr_commands.specs.Fields.{has_name, all_differ}
use Rattle.elasticlunr.specs.Reading.{LanguageReads, ReadsOnly}
use Rattle.elasticlunr_commands.specs.Standing.{Plan}

-- where nothing is there, plans with equal stages are equal
pub same_plan : {X : Type 0} (fields : List Bytes) (reference_field : Bytes) (save : Bool) (language : Bytes)
    (o : Option X) (stages other : List Bytes) → IfNone o (stages ≡ other)
    → IfNone o (◌≡◌ {A = Plan} (record {
      fields = fields;
      reference_field = reference_field;
      save = save;
      language =
          language;
      stages = stages;
    }) (record {
      fields = fields;
      reference_field = reference_field;
      save =
          save;
      language = language;
      stages = other;
    }))
same_plan fields reference_field save language None stages other is =
    λ i. record {
      fields = fields;
      reference_field = reference_field;
      save = save;
      language = language;
      stages =
          is i;
    }
same_plan fields reference_field save language (Some x) stages other is = is

-- what is so where nothing is there
pub where_none : {X : Type 0} (o : Option X) (P : Type 0) → o ≡ None → IfNone o P → P
where_none None P is p = p
where_none (Some x) P is p = absurd (cc (is))

module _ {A : Type 0} where
  end_empty : (xs : List A) → xs ++ [] ≡ xs
  end_empty [] = refl
  end_empty (x ∷ xs) = ap (λ more. x ∷ more) (end_empty xs)

module _ {T : Type 0} where
  without_tokenizers : (names : List Bytes) (name : Bytes)
      → ◌≡◌ {A = List (Option T)} (map (λ (n : Bytes). None) names ++ None ∷ [])
      (map (λ (n : Bytes). None) (names ++ name ∷ []))
  without_tokenizers [] name = refl
  without_tokenizers (n ∷ names) name = ap (λ more. None ∷ more) (without_tokenizers names name)

module _ {L P T : Type 0} where
  -- no fields more
  pub with_no_fields : (c : Choices L P T) → with_fields [] c ≡ c
  with_no_fields c = λ i. record c { fields = end_empty c.fields i; tokenizers = end_empty c.tokenizers i }

  -- one field more
  pub with_one_more : (names : List Bytes) (name : Bytes) (c : Choices L P T)
      → with_field name None (with_fields names c) ≡ with_fields (names ++ name ∷ []) c
  with_one_more names name c =
      let fields : (c.fields ++ names) ++ name ∷ [] ≡ c.fields ++ (names ++ name ∷ []) = append_assoc c.fields names
      (name ∷ []) in
      let tokenizers : (c.tokenizers ++ map (λ (n : Bytes). None) names) ++ None ∷ []
      ≡ c.tokenizers ++ map (λ (n : Bytes). None) (names ++ name ∷ []) =
      append_assoc c.tokenizers (map (λ n. None) names) (None ∷ [])
      ∙ ap (λ ts. c.tokenizers ++ ts) (without_tokenizers names name) in
      λ i. record c { fields = fields i; tokenizers = tokenizers i }

among : (front : List Bytes) (name : Bytes) (back : List Bytes) → has_name name (front ++ name ∷ back) ≡ true
among [] name back = ap (λ b. b || has_name name back) ((bytes_eq-Decides name name).1 refl)
among (first ∷ front) name back = ap (λ b. bytes_eq first name || b) (among front name back)
    ∙ or_true (bytes_eq first name) where
      or_true : (b : Bool) → (b || true) ≡ true
      or_true true = refl
      or_true false = refl

-- a name that stands before its place again
pub repeats : (front : List Bytes) (name : Bytes) (back : List Bytes) → has_name name front ≡ true
    → all_differ (front ++ name ∷ back) ≡ false
repeats [] name back there = absurd (true≢false (sym there))
repeats (first ∷ front) name back there = by_test (repeats front name back) (bytes_eq first name) refl there where
  and_false : (b : Bool) → (b && false) ≡ false
  and_false true = refl
  and_false false = refl

  by_test : (has_name name front ≡ true → all_differ (front ++ name ∷ back) ≡ false) → (b : Bool) → bytes_eq first name
      ≡ b → (b || has_name name front) ≡ true
      → (not (has_name first (front ++ name ∷ back)) && all_differ (front ++ name ∷ back)) ≡ false
  by_test again true e later =
      let same : first ≡ name = (bytes_eq-Decides first name).0 e in
      ap (λ b. not b && all_differ (front ++ name ∷ back)) (ap (λ n. has_name n (front ++ name ∷ back)) same
      ∙ among front name back)
  by_test again false e later = ap (λ b. not (has_name first (front ++ name ∷ back)) && b) (again later) ∙ and_false _

-- a name that the fields and the names before it have already
pub repeated_at : (fields : List Bytes) (names : List (Bor Bytes)) (i : ℕ) (d : Bor Bytes) → i < length names
    → has_name (get_or names i d).now (fields ++ map (λ name. name.now) (take i names)) ≡ true
    → all_differ (fields ++ map (λ name. name.now) names) ≡ false
repeated_at fields [] i d inside there = absurd (omega arith)
repeated_at fields (name ∷ names) zero d inside there = repeats fields name.now (map (λ n. n.now) names)
    (sym (ap (has_name name.now) (end_empty fields)) ∙ there)
repeated_at fields (name ∷ names) (suc i) d inside there =
    ap all_differ (sym (append_assoc fields (name.now ∷ []) (map (λ n. n.now) names)))
    ∙ repeated_at (fields ++ name.now ∷ []) names i d (omega (arith, inside))
    (ap (has_name (get_or names i d).now) (append_assoc fields (name.now ∷ []) (map (λ n. n.now) (take i names)))
    ∙ there)

-- one name more
pub one_name_more : (names : List (Bor Bytes)) (i : ℕ) (d : Bor Bytes) → i < length names
    → map (λ name. name.now) (take (i + 1) names) ≡ map (λ name. name.now) (take i names) ++ (get_or names i d).now
    ∷ []
one_name_more names i d inside = ap (map (λ name. name.now)) (take_more names i d inside)
    ∙ push (take i names) (get_or names i d) where
      push : (before : List (Bor Bytes)) (last : Bor Bytes) → map (λ name. name.now) (before ++ last ∷ [])
          ≡ map (λ name. name.now) before ++ last.now ∷ []
      push [] last = refl
      push (first ∷ before) last = ap (λ more. first.now ∷ more) (push before last)

module _ {L P T : Type 0} where
  -- a builder with the names so far has them with the next one, too
  pub fields_so_far : (start so_far after : Choices L P T) (names : List (Bor Bytes)) (i : ℕ) (d : Bor Bytes) → so_far
      ≡ with_fields (map (λ name. name.now) (take i names)) start → i < length names
      → after ≡ with_field (get_or names i d).now None so_far → after
      ≡ with_fields (map (λ name. name.now) (take (i + 1) names)) start
  fields_so_far start so_far after names i d were inside is =
      is ∙ ap (with_field (get_or names i d).now None) were ∙ with_one_more (map (λ name. name.now) (take i names))
      (get_or names i d).now start
      ∙ ap (λ ns. with_fields ns start) (sym (one_name_more names i d inside))

  -- a builder with the names so far refuses one that it has
  pub refused_at : (start so_far : Choices L P T) (names : List (Bor Bytes)) (i : ℕ) (d : Bor Bytes) → so_far
      ≡ with_fields (map (λ name. name.now) (take i names)) start → i < length names
      → has_name (get_or names i d).now so_far.fields ≡ true → all_differ (start.fields ++ map (λ name. name.now) names)
      ≡ false
  refused_at start so_far names i d were inside there =
      repeated_at start.fields names i d inside
      (sym (ap (λ (c : Choices L P T). has_name (get_or names i d).now c.fields) were) ∙ there)

module _ {T : Type 0} where
  without_own : (tokenizers : List (Option T)) (names : List Bytes)
      → ((i : ℕ) (tokenizer : T) → slice_get tokenizers i ≢ Some (Some tokenizer))
      → (i : ℕ) (tokenizer : T) → slice_get (tokenizers ++ map (λ (name : Bytes). None) names) i ≢ Some (Some tokenizer)
  without_own [] [] none i tokenizer is = cc (is)
  without_own [] (name ∷ names) none zero tokenizer is = cc (is)
  without_own [] (name ∷ names) none (suc i) tokenizer is = without_own [] names (λ j t e. cc (e)) i tokenizer is
  without_own (own ∷ tokenizers) names none zero tokenizer is = none zero tokenizer is
  without_own (own ∷ tokenizers) names none (suc i) tokenizer is = without_own tokenizers names
      (λ j t e. none (suc j) t e) i tokenizer is

module _ {L P T : Type 0} where
  -- a new builder uses the language alone
  pub uses_language-beginning : (language : L) → UsesLanguage {L = L} {P = P} {T = T} (beginning language)
  uses_language-beginning language = record { no_pipeline = refl; no_tokenizer = λ i tokenizer is. cc (is) }

  -- it does so with more fields, too
  pub uses_language-with_fields : (names : List Bytes) (c : Choices L (Option P) T) → UsesLanguage c
      → UsesLanguage (with_fields names c)
  uses_language-with_fields names c uses =
      record { no_pipeline = uses.no_pipeline; no_tokenizer = without_own c.tokenizers names uses.no_tokenizer }

  -- so an index of these fields reads by the language alone
  pub reads_by_language : (given : Choices L (Option P) T) (names : List Bytes) (language : L) (tokens_of : L → Text
      → List Text) (leaves_of : L → Text → Option Text → Type 0) (reads : ℕ → Bytes → List Text → Type 0)
      → given ≡ with_fields names (beginning language)
      → (UsesLanguage given → ReadsOnly reads
      (LanguageReads (tokens_of given.language) (leaves_of given.language)))
      → ReadsOnly reads (LanguageReads (tokens_of language) (leaves_of language))
  reads_by_language given names language tokens_of leaves_of reads is so =
      subst (λ (c : Choices L (Option P) T). UsesLanguage c
      → ReadsOnly reads (LanguageReads (tokens_of c.language) (leaves_of c.language))) is so
      (uses_language-with_fields names (beginning language) (uses_language-beginning language))
