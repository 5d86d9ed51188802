-- Lines of a reader, one after the other, and the documents that they are.
use Rattle.std.proofs.Common.{◌≡◌, ◌≢◌, ◌==◌, ◌≤◌, ◌+◌, ◌*◌, ◌∷◌, ◌++◌, ℕ, List, [], length, map, All, Bool, true}
use Rattle.std.proofs.Common.{false, cond, count_by, if◌then◌else◌, Option, None, Some, option_map, inl, inr, sym, ap}
use Rattle.std.proofs.Common.{subst, refl, ◌∙◌, ◌^◌, append_assoc, append-nil, arith, IfSome}
use borrow.Author.Tests.{ne_eqb}
use Rattle.std.specs.Io.KnownBytes.{Consumes}
use Rattle.std.specs.List.{filter, sum_by}
use Rattle.std.proofs.lemmas.List.Sums.{sum_by-append, sum_by-le}
use Rattle.std.proofs.lemmas.List.{length-append, map-append}
use Rattle.std.proofs.lemmas.List.Elements.{All-weaker}
use Rattle.std.proofs.lemmas.List.Splits.{slice_split_at}
use Rattle.serde_json.specs.Data.{Data}
use Rattle.elasticlunr_text.specs.Text.{Bytes}
use Rattle.elasticlunr_lang.specs.declared.any.AnyLanguage.{AnyLanguage}
use Rattle.elasticlunr.specs.History as history
use Rattle.elasticlunr.specs.History.{Commands, add, ◌▸◌}
use Rattle.elasticlunr.specs.Standing.{Plan}
use Rattle.elasticlunr_job.specs.Answer.{OfIndex}
use Rattle.elasticlunr_job.specs.Commands.{in_order}
use Rattle.elasticlunr_job.specs.Filled.{IsBuiltFor}
use Rattle.elasticlunr_documents.specs.Lines.{HasLineProblem, HasTooManyLines, IsFirstNoDocument}
use Rattle.elasticlunr_documents.specs.LinesTold.{IsFilledBy, IsTaken, IsValueOf}
use Rattle.elasticlunr_job_format.specs.declared.objects.ObjectFault.{ObjectFault}
use Rattle.serde_json.specs.View.{view}
use Rattle.serde_json.specs.declared.value.Value.{Value}
use Rattle.elasticlunr_documents.specs.Objects.{job_of}
use Rattle.elasticlunr_job_format.specs.Job.{Document}
use Rattle.elasticlunr_job_format.specs.LineRead.{AreAll, AreWhole, Begins, HasNoFeed, IsLineAfter, fed}
use Rattle.elasticlunr_job_format.specs.Lines.{filled_lines, is_blank, is_filled, lines_of, readings, AreLineValues}
use Rattle.elasticlunr_job_format.specs.Objects.{Options, AreDocumentsOf, IsDocumentOf}
use Rattle.elasticlunr_job_format.specs.Reading.{reading}
use Rattle.elasticlunr_job_format.proofs.FieldTexts.{AllZip-push}
use Rattle.elasticlunr_job_format.proofs.LineSplits.{split_none}
use Rattle.elasticlunr_job_format.proofs.WholeLines.{filled_append}
use Rattle.elasticlunr_documents.proofs.FilledLines.{blank_first, filled_first, taken_one}
use Rattle.elasticlunr_job.proofs.Taken.{Follows, HasTaken, Makes, Standing}
use Rattle.elasticlunr_job.proofs.Printing.{carried}

module _ (line : Bytes) (none : HasNoFeed line) where
  no_cut : All (λ b. (b == 10) ≡ false) line
  no_cut = All-weaker (λ b. b ≢ 10) (λ b. (b == 10) ≡ false) (λ b other. ne_eqb b 10 other) line none

  -- a line is one line, with its line feed and without it
  pub one_fed : filled_lines (fed line) ≡ filter is_filled (line ∷ lines_of [])
  unfolding no_cut
  one_fed = ap (filter is_filled) (slice_split_at (λ b. b == 10) line 10 [] no_cut refl)

  pub one_last : filled_lines line ≡ filter is_filled (line ∷ lines_of [])
  unfolding no_cut
  one_last = split_none line no_cut

-- the lines of a text were read and added, so many documents
pub record Added (options : Options) (text : Bytes) (number : ℕ) (made : Makes) (old new : Standing) : Type 0 where
  pub items : List Data
  pub documents : List Document
  pub are_values : AreLineValues text items
  pub are_documents : AreDocumentsOf options items documents
  pub number_is : number ≡ length items
  pub taken : HasTaken made old new documents

module _ (options : Options) (text line more : Bytes) (number : ℕ) (made : Makes) (old mid : Standing)
    (whole : AreWhole text) (added : Added options text number made old mid) (one : filled_lines more
    ≡ filter is_filled (line ∷ lines_of [])) where
  both : readings (text ++ more) ≡ readings text ++ readings more
  both = ap (map reading) (filled_append text more whole) ∙ map-append reading (filled_lines text) (filled_lines more)

  -- a blank line more
  pub added_blank : is_blank line ≡ true → Added options (text ++ more) number made old mid
  unfolding both
  added_blank blank =
      let none : filled_lines more ≡ [] = one ∙ blank_first line (lines_of []) blank in
      record {
        items = added.items;
        documents = added.documents;
        are_values = added.are_values ∙ (sym (append-nil (readings text))
            ∙ (ap (λ os. readings text ++ os) (sym (ap (map reading) none)) ∙ sym both));
        are_documents = added.are_documents;
        number_is = added.number_is;
        taken = added.taken;
      }

  -- a document more
  pub added_document : (new : Standing) (d : Data) (doc : Document) (reference : Bytes) (values : List Bytes)
      (document : history.Document) → is_blank line ≡ false → reading line ≡ Some d → IsDocumentOf options d doc
      → reference ≡ doc.reference → values ≡ doc.values
      → made reference values document → ((commands : Commands) → mid commands → new (commands ▸ add document))
      → Added options (text ++ more) (number + 1) made old new
  unfolding both
  added_document new d doc reference values document filled read is its_reference its_values makes follow =
      let here : readings more ≡ Some d ∷ [] = ap (map reading) (one ∙ filled_first line (lines_of []) filled)
      ∙ ap (λ o. o ∷ []) read in
      record {
        items = added.items ++ d ∷ [];
        documents = added.documents ++ doc ∷ [];
        are_values = map-append Some added.items (d ∷ [])
            ∙ (ap (λ os. os ++ Some d ∷ []) added.are_values
            ∙ (ap (λ os. readings text ++ os) (sym here) ∙ sym both));
        are_documents = AllZip-push (IsDocumentOf options) added.items added.documents d doc added.are_documents is;
        number_is = ap (λ n. n + 1) added.number_is ∙ sym (length-append added.items (d ∷ []));
        taken = taken_one made old mid new added.documents doc added.taken document
            (subst (λ r. made r doc.values document) its_reference
            (subst (λ vs. made reference vs document) its_values makes)) follow;
      }

-- a line that was read stands after those before it
pub begins_line : (left mid now : Option Bytes) (text line : Bytes) (more : Bool) → Consumes left mid text
    → Consumes mid now (if more then fed line else line) → (more ≡ false → AreAll mid line) → Begins left text line
begins_line None mid now text line more first next last = tt
begins_line (Some xs) None now text line more first next last = absurd first
begins_line (Some xs) (Some ys) None text line more first next last = absurd next
begins_line (Some xs) (Some ys) (Some zs) text line true first next last = (
  10 ∷ zs,
  inr (zs, refl),
  first
      ∙ ap (λ bs. text ++ bs) (next ∙ append_assoc line (10 ∷ []) zs),
)
begins_line (Some xs) (Some ys) (Some zs) text line false first next last =
    ([], inl refl, first ∙ ap (λ bs. text ++ bs) (last refl ∙ sym (append-nil line)))

-- it is the line after them
pub line_after : (left mid now : Option Bytes) (text line : Bytes) (more : Bool) (feeds : ℕ) → Consumes left mid text
    → AreWhole text → feeds ≡ count_by (λ b. b == 10) text → IsTaken mid now line more → is_blank line ≡ false
    → IsLineAfter left text line feeds
line_after left mid now text line more feeds first whole are taken filled = record {
  begins = begins_line left mid now text line more first taken.taken taken.last;
  whole = whole;
  feeds_are = are;
  no_feed = taken.no_feed;
  filled = ap (λ b. if b then false else true) filled;
}

-- and with a problem it is the first that is no document
pub first_no_document : (options : Options) (text line : Bytes) (number : ℕ) (made : Makes) (old mid : Standing)
    (problem : ObjectFault) → Added options text number made old mid → HasLineProblem options (reading line) problem
    → IsFirstNoDocument options text line (number + 1) problem
first_no_document options text line number made old mid problem added has = record {
  items = added.items;
  documents = added.documents;
  are_values = added.are_values;
  are_documents = added.are_documents;
  number_is = ap (λ n. n + 1) added.number_is;
  has = has;
}

-- a line without a value is blank
pub none_blank : (line : Bytes) (value : Option Value) → IsValueOf line (option_map view value) → value ≡ None
    → is_blank line ≡ true
none_blank line value is none = subst (λ o. IsValueOf line (option_map view o)) none is

-- one with a value is not, and is read as it
pub some_filled : (line : Bytes) (value : Option Value) (v : Value) → IsValueOf line (option_map view value) → value
    ≡ Some v → (is_blank line ≡ false) × (reading line ≡ Some (view v))
some_filled line value v is some = subst (λ o. IsValueOf line (option_map view o)) some is

-- a line has one line feed
pub feeds_next : (text line : Bytes) → HasNoFeed line → count_by (λ b. b == 10) (text ++ fed line)
    ≡ count_by (λ b. b == 10) text + 1
feeds_next text line none =
    let f = λ (b : ℕ). cond (b == 10) 1 0 in
    let few : sum_by f line ≤ length line * 0 = sum_by-le f 0 line
    (All-weaker (λ b. b ≢ 10) (λ b. f b ≤ 0)
    (λ b other. omega (arith, ap {B = ℕ} (λ t. cond t 1 0) (ne_eqb b 10 other))) line none) in
    let both : sum_by f (text ++ fed line) ≡ sum_by f text + sum_by f (fed line) = sum_by-append f text (fed line) in
    let last : sum_by f (fed line) ≡ sum_by f line + 1 = sum_by-append f line (10 ∷ []) in
    omega (arith, few, both, last)

-- all lines were added
pub all_filled : (options : Options) (language : AnyLanguage) (left : Option Bytes) (text : Bytes) (number : ℕ)
    (made : Makes) (old new : Standing) (before after : Plan) (Is : OfIndex) → AreAll left text
    → Added options text number made old new → after ≡ before
    → IsBuiltFor options.rules (job_of options []) language before made old
    → ((commands : Commands) → new commands → Is options.pretty after commands) → (all : Bytes) × AreAll left all
    × IsFilledBy options language all Is
all_filled options language left text number made old new before after Is all added same built holds =
    let job = job_of options added.documents in
    let entered = added.taken.documents in
    let order : in_order job entered ≡ map add entered = append-nil (map add entered ++ [])
    ∙ append-nil (map add entered) in (
      text,
      all,
      record {
        items = added.items;
        documents = added.documents;
        are_values = added.are_values;
        are_documents = added.are_documents;
        made = carried options.rules job language made old new before after Is same
            (record { its_plan = built.its_plan; adds = built.adds; empty = built.empty })
            (record {
              documents = entered;
              each = added.taken.each;
              follows = subst (Follows old new) (sym order)
                  added.taken.follows;
            })
            holds;
      },
    )

-- text that was read has no more line feeds than what was left before it
pub taken_feeds : (left now : Option Bytes) (text : Bytes) → Consumes left now text
    → 2 ^ 64 ≤ count_by (λ b. b == 10) text + 1 → IfSome left HasTooManyLines
taken_feeds None now text taken many = tt
taken_feeds (Some bytes) None text taken many = absurd taken
taken_feeds (Some bytes) (Some rest) text taken many =
    let f = λ (b : ℕ). cond (b == 10) 1 0 in
    let both : sum_by f (text ++ rest) ≡ sum_by f text + sum_by f rest = sum_by-append f text rest in
    subst HasTooManyLines (sym taken) (omega (arith, many, both))
