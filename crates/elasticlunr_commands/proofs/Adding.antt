-- An index that held what commands left holds what they leave with one more document.
use Rattle.std.proofs.Common.{◌≡◌, ◌≢◌, ◌⊎◌, inl, inr, ℕ, zero, suc, List, [], ◌∷◌, ◌++◌, length, arith, Bool, true}
use Rattle.std.proofs.Common.{false, cond, Option, None, Some, IfSome, true≢false, option_map, option_and_then}
use Rattle.std.proofs.Common.{bytes_eq, refl, sym, ap, subst, ◌∙◌}
use Rattle.std.proofs.lemmas.Slice.Eq.{bytes_eq-Decides}
use Rattle.std.specs.Prelude.{IsSomeAnd, IsSome, IsTrue, Contains, count_by}
use Rattle.std.specs.List.{slice_get}
use Rattle.std.specs.Option.{option_map_or}
use Rattle.std.specs.FinMap as map
use Rattle.elasticlunr_error.specs.Text.{Text, Bytes}
use Rattle.elasticlunr_trie.specs.Table.{Table, knows, posting, IsPrefix}
use Rattle.elasticlunr_store.specs.Contents.{Contents, IsConsistent, length_at}
use Rattle.elasticlunr_commands.specs.History.{Document, add, Commands, ◌▸◌, now}
use Rattle.elasticlunr_commands.specs.Standing.{Plan, tokens_at, Begins, occurrences, IsPosting, IsTableOf, stored}
use Rattle.elasticlunr_commands.specs.Standing.{length_in, IsContentsOf, Holds}
use Rattle.elasticlunr_commands.specs.Entered.{BeginsOne, ReplacesPostings, HasOnlyStored}

-- the document replaces what its reference had
pub record Enters (plan : Plan) (document : Document) (old_tables new_tables : List Table) (old new : Contents) : Type 0
  where
    pub as_many : length new_tables ≡ length old_tables
    pub tables : (i : ℕ) (before after : Table) → slice_get old_tables i ≡ Some before → slice_get new_tables i
        ≡ Some after → ReplacesPostings before after document.reference (tokens_at i document)
    pub kept : IsConsistent old → IsConsistent new
    pub save : new.save ≡ old.save
    pub texts : (r : Bytes) → map.get new.texts r
        ≡ (cond (bytes_eq r document.reference) (Some (stored plan document)) (map.get old.texts r))
    pub lengths : (r field : Bytes) → length_at new r field
        ≡ (cond (bytes_eq r document.reference) (length_in plan.fields document.given field) (length_at old r field))

-- a test of texts shows that they are equal, or that they differ
pub same : (x y : Bytes) → bytes_eq x y ≡ true → x ≡ y
same x y e = (bytes_eq-Decides x y).0 e

pub apart : (x y : Bytes) → bytes_eq x y ≡ false → x ≢ y
apart x y e is = absurd (true≢false (sym ((bytes_eq-Decides x y).1 is) ∙ e))

pub either : {A B C : Type 0} → (A → C) → (B → C) → A ⊎ B → C
either f g (inl a) = f a
either f g (inr b) = g b

-- lists of one length have elements at the same places
pub both_some : {A : Type 0} (xs ys : List A) (i : ℕ) → length xs ≡ length ys → IsSome (slice_get ys i)
    → IsSome (slice_get xs i)
both_some [] [] i e there = there
both_some [] (y ∷ ys) i e there = absurd (omega arith)
both_some (x ∷ xs) [] i e there = absurd (true≢false (sym there))
both_some (x ∷ xs) (y ∷ ys) zero e there = refl
both_some (x ∷ xs) (y ∷ ys) (suc i) e there = both_some xs ys i (omega arith) there

-- only the empty text begins the empty text
pub begins_empty : (text rest : Text) → text ++ rest ≡ [] → text ≡ []
begins_empty [] rest e = refl
begins_empty (x ∷ text) rest e = cc (e)

module _ (commands : Commands) (d : Document) where
  begins_before : (i : ℕ) (text : Text) → Begins commands i text → Begins (commands ▸ add d) i text
  begins_before i text b = record {
    document = b.document;
    token = b.token;
    counts = inr b.counts;
    has = b.has;
    begins =
        b.begins;
  }

  begins_now : (i : ℕ) (text : Text) → IsSomeAnd (tokens_at i d) (λ these. BeginsOne these text)
      → Begins (commands ▸ add d) i text
  begins_now i text some = by_tokens (tokens_at i d) refl some where
    by_tokens : (o : Option (List Text)) → tokens_at i d ≡ o → IsSomeAnd o (λ these. BeginsOne these text)
        → Begins (commands ▸ add d) i text
    by_tokens None e some = absurd some
    by_tokens (Some these) e some = record {
      document = d;
      token = some.token;
      counts = inl refl;
      has =
          subst (λ o. IsSomeAnd o (λ ts. Contains ts some.token)) (sym e) some.among;
      begins = some.begins;
    }

  pub table_added : (i : ℕ) (old new : Table) → IsTableOf commands i old
      → ReplacesPostings old new d.reference (tokens_at i d) → IsTableOf (commands ▸ add d) i new
  table_added i old new was step = record {
    known = λ text. (
      λ k. either (λ before. either inl (λ b. inr (begins_before i text b)) ((was.known text).0 before))
          (λ t. inr (begins_now i text t)) ((step.known text).0 k),
      λ k. either
          (λ empty. (step.known text).1 (inl ((was.known text).1 (inl empty))))
          (λ b. either
          (λ is. among_new text b.token b.begins (subst (λ e. IsSomeAnd (tokens_at i e) (λ ts. Contains ts b.token))
          (sym is) b.has) (bytes_eq b.token []) refl)
          (λ counts. (step.known text).1 (inl ((was.known text).1
          (inr (record {
            document = b.document;
            token = b.token;
            counts = counts;
            has = b.has;
            begins =
                b.begins;
          })))))
          b.counts)
          k,
    );
    postings = λ token r there. elim (bytes_eq r d.reference) as (λ b. bytes_eq r d.reference ≡ b
        → IsPosting (option_map_or (count_by (bytes_eq token))
        (option_and_then (tokens_at i) (cond b (Some d) (now commands r))) 0) (posting new token r)) [
          | true ↦ λ is. subst (λ q. IsPosting (option_map_or (count_by (bytes_eq token)) (tokens_at i d) 0)
              (posting new token q)) (sym (same r d.reference is)) (step.its_own token there)
          | false ↦ λ differs. subst (IsPosting (occurrences commands i token r))
              (sym (step.others token r (apart r d.reference differs))) (was.postings token r there)
        ] refl;
    no_empty = λ r. step.no_empty r (was.no_empty r);
  } where
    among_new : (text token : Text) → IsPrefix text token → IsSomeAnd (tokens_at i d) (λ ts. Contains ts token)
        → (b : Bool) → bytes_eq token [] ≡ b → IsTrue (knows new text)
    among_new text token begins has true e = (step.known text).1
        (inl ((was.known text).1 (inl (begins_empty text begins.0 (begins.1 ∙ same token [] e)))))
    among_new text token begins has false e = (step.known text).1 (inr (by_tokens (tokens_at i d) has)) where
      by_tokens : (o : Option (List Text)) → IsSomeAnd o (λ ts. Contains ts token)
          → IsSomeAnd o (λ these. BeginsOne these text)
      by_tokens None has = has
      by_tokens (Some these) has = record { token = token; not_empty = apart token [] e; among = has; begins = begins }

  cases_of_now : {X : Type 0} (f : Document → Option X) (r : Bytes) (b : Bool) → bytes_eq r d.reference ≡ b
      → option_and_then f (cond b (Some d) (now commands r)) ≡ cond b (f d) (option_and_then f (now commands r))
  cases_of_now f r true e = refl
  cases_of_now f r false e = refl

  cases_of_map : {X : Type 0} (f : Document → X) (r : Bytes) (b : Bool)
      → option_map f (cond b (Some d) (now commands r)) ≡ cond b (Some (f d)) (option_map f (now commands r))
  cases_of_map f r true = refl
  cases_of_map f r false = refl

  pub contents_added : (plan : Plan) (before after : List Table) (old new : Contents) → IsContentsOf plan commands old
      → Enters plan d before after old new → IsContentsOf plan (commands ▸ add d) new
  contents_added plan before after old new was step = record {
    are_contents = step.kept was.are_contents;
    save = step.save ∙ was.save;
    texts = λ r. step.texts r ∙ ap (cond (bytes_eq r d.reference) (Some (stored plan d))) (was.texts r)
        ∙ sym (cases_of_map (stored plan) r (bytes_eq r d.reference));
    lengths = λ r field. step.lengths r field ∙ ap (cond (bytes_eq r d.reference) (length_in plan.fields d.given field))
        (was.lengths r field) ∙ sym (cases_of_now (λ e. length_in plan.fields e.given field) r
        (bytes_eq r d.reference) refl);
  }

  each_added : (plan : Plan) (i : ℕ) (before after : List Table) (old new : Contents)
      → IfSome (slice_get before i) (IsTableOf commands i) → Enters plan d before after old new
      → (b a : Option Table) → slice_get before i ≡ b → slice_get after i ≡ a → (IsSome a → IsSome b)
      → IfSome a (IsTableOf (commands ▸ add d) i)
  each_added plan i before after old new was step b None eb ea some = tt
  each_added plan i before after old new was step None (Some t) eb ea some = absurd (true≢false (sym (some refl)))
  each_added plan i before after old new was step (Some s) (Some t) eb ea some = table_added i s t
      (subst (λ o. IfSome o (IsTableOf commands i)) eb was) (step.tables i s t eb ea)

  pub holds_added : (plan : Plan) (before after : List Table) (old new : Contents) → Holds plan commands before old
      → Enters plan d before after old new → Holds plan (commands ▸ add d) after new
  holds_added plan before after old new was step = record {
    one_each = step.as_many ∙ was.one_each;
    each = λ i. each_added plan i before after old new (was.each i) step _ _ refl refl
        (both_some _ _ i (sym step.as_many));
    store = contents_added plan before after old new was.store step;
  }

  -- a reference without texts has no current document, so nothing else of it is there
  pub only_stored : (plan : Plan) (tables : List Table) (contents : Contents) (r : Bytes)
      → Holds plan commands tables contents → HasOnlyStored tables contents r
  only_stored plan tables contents r was = record {
    postings = λ absent i. of_table i (slice_get tables i) (no_document absent) (was.each i);
    lengths = λ absent field. was.store.lengths r field
        ∙ ap (option_and_then (λ e. length_in plan.fields e.given field)) (no_document absent);
  } where
    by_now : (o : Option Document) → option_map (stored plan) o ≡ None → o ≡ None
    by_now None e = refl
    by_now (Some e) is = cc (is)

    no_document : map.get contents.texts r ≡ None → now commands r ≡ None
    no_document absent = by_now (now commands r) (sym (was.store.texts r) ∙ absent)

    in_table : (i : ℕ) (table : Table) → now commands r ≡ None → IsTableOf commands i table → (token : Text) (b : Bool)
        → bytes_eq token [] ≡ b → posting table token r ≡ None
    in_table i table absent is token true e = ap (λ t. posting table t r) (same token [] e) ∙ is.no_empty r
    in_table i table absent is token false e =
        subst (λ o. IsPosting (option_map_or (count_by (bytes_eq token)) (option_and_then (tokens_at i) o) 0)
        (posting table token r)) absent (is.postings token r (apart token [] e))

    of_table : (i : ℕ) (o : Option Table) → now commands r ≡ None → IfSome o (IsTableOf commands i)
        → IfSome o (λ table. (token : Text) → posting table token r ≡ None)
    of_table i None absent is = tt
    of_table i (Some table) absent is = λ token. in_table i table absent is token (bytes_eq token []) refl

  pub holds_entered : (plan : Plan) (before after : List Table) (old new : Contents) → Holds plan commands before old
      → (HasOnlyStored before old d.reference → Enters plan d before after old new)
      → Holds plan (commands ▸ add d) after new
  holds_entered plan before after old new was step = holds_added plan before after old new was
      (step (only_stored plan before old d.reference was))
