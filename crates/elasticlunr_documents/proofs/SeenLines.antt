-- On the documents in lines that a watch saw.
use Rattle.std.proofs.Common.{◌≡◌, ◌∷◌, ◌++◌, List, [], map, true, false, Some, Result, Ok, Err, OnOk, refl, sym, ap}
use Rattle.std.proofs.Common.{subst, ◌∙◌, append-nil}
use Rattle.std.specs.List.{filter}
use Rattle.std.proofs.lemmas.List.{map-append}
use Rattle.serde_json.specs.Data.{Data}
use Rattle.elasticlunr_text.specs.Text.{Bytes}
use Rattle.elasticlunr_documents.specs.Seen.{SawAll, SawLines, Sees}
use Rattle.elasticlunr_job_format.specs.Job.{Document}
use Rattle.elasticlunr_job_format.specs.LineRead.{AreWhole}
use Rattle.elasticlunr_job_format.specs.Lines.{AreLineValues, filled_lines, is_blank, is_filled, lines_of, readings}
use Rattle.elasticlunr_job_format.specs.Objects.{Options, IsDocumentOf}
use Rattle.elasticlunr_job_format.specs.Reading.{reading}
use Rattle.elasticlunr_job_format.proofs.FieldTexts.{AllZip-push}
use Rattle.elasticlunr_job_format.proofs.WholeLines.{filled_append}
use Rattle.elasticlunr_documents.proofs.FilledLines.{blank_first, filled_first}

-- what a call gives where it succeeds
pub on_ok : {T E : Type 0} (r : Result T E) (P : Type 0) → P → OnOk r P
on_ok (Ok x) P p = p
on_ok (Err e) P p = tt

-- one document more
saw_more : {W : Type 0} (sees : Sees W) (old mid new : W) (items : List Data) (docs : List Document) (d : Data)
    (doc : Document) → SawAll sees old mid items docs → sees mid new d doc
    → SawAll sees old new (items ++ d ∷ []) (docs ++ doc ∷ [])
saw_more sees old mid new [] [] d doc is saw = (new, subst (λ w. sees w new d doc) is saw, refl)
saw_more sees old mid new [] (first ∷ docs) d doc is saw = absurd is
saw_more sees old mid new (item ∷ items) [] d doc is saw = absurd is
saw_more sees old mid new (item ∷ items) (first ∷ docs) d doc (next, its, others) saw =
    (next, its, saw_more sees next mid new items docs d doc others saw)

-- the lines of two texts
both : (text more : Bytes) → AreWhole text → readings (text ++ more) ≡ readings text ++ readings more
both text more whole = ap (map reading) (filled_append text more whole)
    ∙ map-append reading (filled_lines text) (filled_lines more)

module _ {W : Type 0} (sees : Sees W) (options : Options) (text line more : Bytes) (old mid : W)
    (whole : AreWhole text) (saw : SawLines sees options text old mid) (one : filled_lines more
    ≡ filter is_filled (line ∷ lines_of [])) where
  -- a blank line more
  pub saw_blank : is_blank line ≡ true → SawLines sees options (text ++ more) old mid
  saw_blank blank =
      let none : filled_lines more ≡ [] = one ∙ blank_first line (lines_of []) blank in (
        saw.0,
        saw.1,
        saw.2 ∙ (sym (append-nil (readings text))
            ∙ (ap (λ os. readings text ++ os) (sym (ap (map reading) none)) ∙ sym (both text more whole))),
        saw.3,
        saw.4,
      )

  -- a document more
  pub saw_document : (new : W) (d : Data) (doc : Document) → is_blank line ≡ false → reading line ≡ Some d
      → IsDocumentOf options d doc → sees mid new d doc → SawLines sees options (text ++ more) old new
  saw_document new d doc filled read is its =
      let here : readings more ≡ Some d ∷ [] = ap (map reading) (one ∙ filled_first line (lines_of []) filled)
      ∙ ap (λ o. o ∷ []) read in (
        saw.0 ++ d ∷ [],
        saw.1 ++ doc ∷ [],
        map-append Some saw.0 (d ∷ [])
            ∙ (ap (λ os. os ++ Some d ∷ []) saw.2
            ∙ (ap (λ os. readings text ++ os) (sym here) ∙ sym (both text more whole))),
        AllZip-push (IsDocumentOf options) saw.0 saw.1 d doc saw.3 is,
        saw_more sees old mid new saw.0 saw.1 d doc saw.4 its,
      )
