-- Commands that agree leave an index that holds the same.
use Rattle.std.proofs.Common.{◌≡◌, ◌↔◌, ◌⊎◌, inl, inr, ℕ, List, true, false, cond, Option, None, Some, IfSome}
use Rattle.std.proofs.Common.{option_map, option_and_then, bytes_eq, refl, sym, ap, subst, ◌∙◌}
use Rattle.std.proofs.lemmas.Slice.Eq.{bytes_eq-Decides}
use Rattle.std.specs.Prelude.{count_by}
use Rattle.std.specs.List.{slice_get}
use Rattle.std.specs.Option.{option_map_or}
use Rattle.elasticlunr_error.specs.Text.{Text, Bytes}
use Rattle.elasticlunr_trie.specs.Table.{Table, posting}
use Rattle.elasticlunr_store.specs.Contents.{Contents}
use Rattle.elasticlunr_commands.specs.History.{Document, add, remove, compact, Commands, none, ◌▸◌, now, about}
use Rattle.elasticlunr_commands.specs.History.{HasNoCompaction, EndsCompacted, AgreeOnEach, Agree}
use Rattle.elasticlunr_commands.specs.Standing.{Plan, tokens_at, Counts, Begins, IsPosting, IsTableOf, stored}
use Rattle.elasticlunr_commands.specs.Standing.{length_in, Holds}
use Rattle.elasticlunr_commands.proofs.Adding.{either}

-- the same documents are current, and the same count for what is known
pub record Alike (left right : Commands) : Type 0 where
  pub now_same : (r : Bytes) → now left r ≡ now right r
  pub counts : (d : Document) → Counts left d ↔ Counts right d

module _ (left right : Commands) (alike : Alike left right) where
  begins_alike : (i : ℕ) (text : Text) → Begins left i text → Begins right i text
  begins_alike i text b = record {
    document = b.document;
    token = b.token;
    counts = (alike.counts b.document).0
        b.counts;
    has = b.has;
    begins = b.begins;
  }

  begins_back : (i : ℕ) (text : Text) → Begins right i text → Begins left i text
  begins_back i text b = record {
    document = b.document;
    token = b.token;
    counts = (alike.counts b.document).1 b.counts;
    has = b.has;
    begins = b.begins;
  }

  table_alike : (i : ℕ) (table : Table) → IsTableOf left i table → IsTableOf right i table
  table_alike i table is = record {
    known = λ text. (
      λ k. either inl (λ b. inr (begins_alike i text b)) ((is.known text).0 k),
      λ k. (is.known text).1 (either inl (λ b. inr (begins_back i text b)) k),
    );
    postings = λ token r there. subst (λ o. IsPosting
        (option_map_or (count_by (bytes_eq token)) (option_and_then (tokens_at i) o) 0) (posting table token r))
        (alike.now_same r) (is.postings token r there);
    no_empty = is.no_empty;
  }

  table_there : (i : ℕ) (o : Option Table) → IfSome o (IsTableOf left i) → IfSome o (IsTableOf right i)
  table_there i None is = tt
  table_there i (Some table) is = table_alike i table is

  pub holds_alike : (plan : Plan) (tables : List Table) (contents : Contents) → Holds plan left tables contents
      → Holds plan right tables contents
  holds_alike plan tables contents was = record {
    one_each = was.one_each;
    each = λ i. table_there i (slice_get tables i) (was.each i);
    store = record {
      are_contents = was.store.are_contents;
      save = was.store.save;
      texts = λ r. was.store.texts r ∙ ap (option_map (stored plan)) (alike.now_same r);
      lengths = λ r field. was.store.lengths r field ∙ ap (option_and_then (λ d. length_in plan.fields d.given field))
          (alike.now_same r);
    };
  }

-- the current document of a reference is that of the commands about it
now_about : (commands : Commands) (r : Bytes) → now commands r ≡ now (about r commands) r
now_about none r = refl
now_about (commands ▸ add d) r = elim (bytes_eq r d.reference) as (λ b. bytes_eq r d.reference ≡ b
    → cond b (Some d) (now commands r) ≡ now (cond b (about r commands ▸ add d) (about r commands)) r) [
      | true ↦ λ e. sym (ap (λ b. cond b (Some d) (now (about r commands) r)) e)
      | false ↦ λ e. now_about commands r
    ] refl
now_about (commands ▸ remove gone) r = elim (bytes_eq r gone) as (λ b. bytes_eq r gone ≡ b
    → cond b None (now commands r) ≡ now (cond b (about r commands ▸ remove gone) (about r commands)) r) [
      | true ↦ λ e. sym (ap (λ b. cond b None (now (about r commands) r)) e)
      | false ↦ λ e. now_about commands r
    ] refl
now_about (commands ▸ compact) r = now_about commands r

-- with no compaction, a document counts exactly where it is among those added for its reference
counts_about : (commands : Commands) (d : Document) → HasNoCompaction commands → Counts commands d
    → Counts (about d.reference commands) d
counts_about none d plain counts = elim counts [ ]
counts_about (commands ▸ compact) d plain counts = elim plain [ ]
counts_about (commands ▸ add e) d plain (inl is) =
    subst (λ b. Counts (cond b (about d.reference commands ▸ add e) (about d.reference commands)) d)
    (sym ((bytes_eq-Decides d.reference e.reference).1 (ap (λ x. x.reference) (sym is)))) (inl is)
counts_about (commands ▸ add e) d plain (inr counts) = elim (bytes_eq d.reference e.reference) as
    (λ b. Counts (cond b (about d.reference commands ▸ add e) (about d.reference commands)) d) [
      | true ↦ inr (counts_about commands d plain counts)
      | false ↦ counts_about commands d plain counts
    ]
counts_about (commands ▸ remove gone) d plain counts = elim (bytes_eq d.reference gone) as
    (λ b. Counts (cond b (about d.reference commands ▸ remove gone) (about d.reference commands)) d) [
      | true ↦ counts_about commands d plain counts
      | false ↦ counts_about commands d plain counts
    ]

about_counts : (commands : Commands) (d : Document) → HasNoCompaction commands → Counts (about d.reference commands) d
    → Counts commands d
about_counts none d plain = λ counts. counts
about_counts (commands ▸ compact) d plain = elim plain [ ]
about_counts (commands ▸ add e) d plain = elim (bytes_eq d.reference e.reference) as
    (λ b. Counts (cond b (about d.reference commands ▸ add e) (about d.reference commands)) d → (e ≡ d)
    ⊎ Counts commands d) [
      | true ↦ λ counts. either inl (λ more. inr (about_counts commands d plain more)) counts
      | false ↦ λ counts. inr (about_counts commands d plain counts)
    ]
about_counts (commands ▸ remove gone) d plain = elim (bytes_eq d.reference gone) as
    (λ b. Counts (cond b (about d.reference commands ▸ remove gone) (about d.reference commands)) d
    → Counts commands d) [
      | true ↦ λ counts. about_counts commands d plain counts
      | false ↦ λ counts. about_counts commands d plain counts
    ]

alike_on_each : (left right : Commands) → AgreeOnEach left right → Alike left right
alike_on_each left right agree = record {
  now_same = λ r. now_about left r ∙ ap (λ c. now c r) (agree.same r) ∙ sym (now_about right r);
  counts = λ d. (
    λ c. about_counts right d agree.right_plain
        (subst (λ k. Counts k d) (agree.same d.reference) (counts_about left d agree.left_plain c)),
    λ c. about_counts left d agree.left_plain
        (subst (λ k. Counts k d) (sym (agree.same d.reference)) (counts_about right d agree.right_plain c)),
  );
}

alike_compacted : (left right : Commands) → EndsCompacted left → EndsCompacted right
    → ((r : Bytes) → now left r ≡ now right r) → Alike left right
alike_compacted (left ▸ compact) (right ▸ compact) lends rends is = record {
  now_same = is;
  counts = λ d. (λ c. sym (is d.reference) ∙ c, λ c. is d.reference ∙ c);
}
alike_compacted (left ▸ compact) (right ▸ add d) lends rends is = absurd rends
alike_compacted (left ▸ compact) (right ▸ remove r) lends rends is = absurd rends
alike_compacted (left ▸ compact) none lends rends is = absurd rends
alike_compacted (left ▸ add d) right lends rends is = absurd lends
alike_compacted (left ▸ remove r) right lends rends is = absurd lends
alike_compacted none right lends rends is = absurd lends

pub alike_from_agree : (left right : Commands) → Agree left right → Alike left right
alike_from_agree left right (inl is) = subst (Alike left) is
    (record { now_same = λ r. refl; counts = λ d. (λ c. c, λ c. c) })
alike_from_agree left right (inr (inl agree)) = alike_on_each left right agree
alike_from_agree left right (inr (inr agree)) = alike_compacted left right agree.left_ends agree.right_ends agree.same

pub holds_agreed : (left right : Commands) (plan : Plan) (tables : List Table) (contents : Contents) → Agree left right
    → Holds plan left tables contents → Holds plan right tables contents
holds_agreed left right plan tables contents agree = holds_alike left right (alike_from_agree left right agree) plan
    tables contents
