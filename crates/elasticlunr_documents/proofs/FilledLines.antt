-- On lines that are not blank, and on the documents that they are.
use Rattle.std.proofs.Common.{◌≡◌, ◌≤◌, ◌∷◌, ◌++◌, suc, List, [], length, map, All, true, false, cond, if◌then◌else◌}
use Rattle.std.proofs.Common.{refl, sym, ap, subst, arith}
use Rattle.std.specs.List.{filter}
use Rattle.std.proofs.lemmas.List.{map-append}
use Rattle.std.proofs.lemmas.List.Elements.{All-cons, All-nil}
use Rattle.serde_json.specs.Data.{Data}
use Rattle.elasticlunr_text.specs.Text.{Bytes}
use Rattle.elasticlunr.specs.History as history
use Rattle.elasticlunr.specs.History.{Commands, add, ◌▸◌}
use Rattle.elasticlunr_job_format.specs.Job.{Document}
use Rattle.elasticlunr_job_format.specs.Lines.{is_blank, is_filled}
use Rattle.elasticlunr_job_format.specs.Objects.{Options, AreDocumentsOf, HasTexts, IsDocumentOf}
use Rattle.elasticlunr_job_format.proofs.FieldTexts.{AllZip-push}
use Rattle.elasticlunr_job.proofs.Filling.{Follows-append}
use Rattle.elasticlunr_job.proofs.Taken.{Follows, HasTaken, Makes, Standing}

pub filled_first : (line : Bytes) (lines : List Bytes) → is_blank line ≡ false → filter is_filled (line ∷ lines) ≡ line
    ∷ filter is_filled lines
filled_first line lines is = ap (λ b. cond (if b then false else true) (line ∷ filter is_filled lines)
    (filter is_filled lines)) is

pub blank_first : (line : Bytes) (lines : List Bytes) → is_blank line ≡ true → filter is_filled (line ∷ lines)
    ≡ filter is_filled lines
blank_first line lines is = ap (λ b. cond (if b then false else true) (line ∷ filter is_filled lines)
    (filter is_filled lines)) is

-- one document more was added
pub taken_one : (made : Makes) (old mid new : Standing) (docs : List Document) (doc : Document)
    → HasTaken made old mid docs → (document : history.Document) → made doc.reference doc.values document
    → ((commands : Commands) → mid commands → new (commands ▸ add document))
    → HasTaken made old new (docs ++ doc ∷ [])
taken_one made old mid new docs doc so_far document makes follow =
    let before = so_far.documents in
    record {
      documents = before ++ document ∷ [];
      each = AllZip-push (λ asked_doc entered. made asked_doc.reference asked_doc.values entered) docs before doc
          document so_far.each makes;
      follows = subst (Follows old new) (sym (map-append add before (document ∷ [])))
          (Follows-append old mid new (map add before) (add document ∷ []) so_far.follows
          (record { stands = follow }));
    }

texts_long : (options : Options) (d : Data) (fields texts : List Bytes) → HasTexts options d fields texts
    → length texts ≡ length fields
texts_long options d [] [] has = refl
texts_long options d [] (text ∷ texts) has = absurd has
texts_long options d (field ∷ fields) [] has = absurd has
texts_long options d (field ∷ fields) (text ∷ texts) has = ap (λ n. suc n) (texts_long options d fields texts has.1)

-- a document has as many values as there are fields
pub values_long : (options : Options) (d : Data) (doc : Document) → IsDocumentOf options d doc → length doc.values
    ≡ length options.fields
values_long options d doc is = texts_long options d options.fields doc.values is.values

-- no document has more
pub documents_fit : (options : Options) (items : List Data) (docs : List Document) → AreDocumentsOf options items docs
    → All (λ doc. length doc.values ≤ length options.fields) docs
documents_fit options [] [] are = All-nil (λ doc. length doc.values ≤ length options.fields)
documents_fit options [] (doc ∷ docs) are = absurd are
documents_fit options (d ∷ items) [] are = absurd are
documents_fit options (d ∷ items) (doc ∷ docs) are = All-cons (λ doc. length doc.values ≤ length options.fields) doc
    docs (let long = values_long options d doc are.0 in omega arith) (documents_fit options items docs are.1)
