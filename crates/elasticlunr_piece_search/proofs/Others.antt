-- Faults that are passed on.
use Rattle.std.proofs.Common.{◌≡◌, ℕ, List, Result, Ok, Err, IfErr, IsErrAnd, sym, subst, ◌∙◌}
use Rattle.elasticlunr_error.specs.Text.{Bytes}
use Rattle.elasticlunr_piece_head.specs.declared.head.PieceHead.{PieceHead}
use Rattle.elasticlunr_store.specs.Contents.{TextMap}
use Rattle.elasticlunr_piece_search.specs.Texts.{IsTextsFault, IsTextsPiece}
use Rattle.elasticlunr_piece_search.specs.Faults.{IsOther}
use Rattle.elasticlunr_piece_search.specs.declared.fault.PieceFault.{PieceFault}
use Rattle.elasticlunr_piece_search.specs.declared.fault.PieceFault.TheVariants.{Size, NotRead, Other, Memory}

-- other entries for another reason
pub other_for : (P Q : Type 0) → (P → Q) → (e : PieceFault) → IsOther P e → IsOther Q e
other_for P Q f (Size n) p = elim p [ ]
other_for P Q f NotRead p = elim p [ ]
other_for P Q f Other p = f p
other_for P Q f Memory p = tt

pub other_again : {U : Type 0} (P Q : Type 0) → (P → Q) → (e : PieceFault) (r : Result U PieceFault)
    → IsErrAnd r (λ x. x ≡ e) → IsOther P e → IfErr r (IsOther Q)
other_again P Q f e (Ok x) h p = tt
other_again P Q f e (Err x) h p = other_for P Q f x (subst (IsOther P) (sym h) p)

-- memory was refused
pub refused_memory : {U : Type 0} (Q : Type 0) → (e : PieceFault) (r : Result U PieceFault)
    → IsErrAnd r (λ x. x ≡ e) → e ≡ Memory → IfErr r (IsOther Q)
refused_memory Q e (Ok x) h is = tt
refused_memory Q e (Err x) h is = subst (IsOther Q) (sym (h ∙ is)) tt

-- no documents make a text the piece of the texts
texts_for : (head : PieceHead) (number : ℕ) (text : Bytes) (P : Type 0)
    → (P → (documents : List TextMap) → ¬ IsTextsPiece head number text documents) → (e : PieceFault) → IsOther P e
    → IsTextsFault head number text e
texts_for head number text P f (Size n) p = elim p [ ]
texts_for head number text P f NotRead p = elim p [ ]
texts_for head number text P f Other p = f p
texts_for head number text P f Memory p = tt

pub no_texts : {U : Type 0} (head : PieceHead) (number : ℕ) (text : Bytes) (P : Type 0)
    → (P → (documents : List TextMap) → ¬ IsTextsPiece head number text documents) → (r : Result U PieceFault)
    → IfErr r (IsOther P) → IfErr r (IsTextsFault head number text)
no_texts head number text P f (Ok x) p = tt
no_texts head number text P f (Err e) p = texts_for head number text P f e p
