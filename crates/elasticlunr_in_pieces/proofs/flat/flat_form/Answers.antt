use Rattle.std.proofs.Common.{Err, List, ap, map, subst, sym, ◌∙◌}
use Rattle.elasticlunr_flat.specs.Flat.{IsList, IsText}
use Rattle.elasticlunr_pieces.specs.declared.making.Piece.{Piece}
use Rattle.elasticlunr_in_pieces.specs.Folder.{file_told, IsFlatFile}
use Rattle.elasticlunr_in_pieces.proofs.Bytes.{error_is}
use Rattle.elasticlunr_in_pieces.proofs.flat.flat_form.Goals as goal

pub returns-in_err-put_pieces-clause-too_large : goal.returns-in_err-put_pieces-clause-too_large
returns-in_err-put_pieces-clause-too_large c = λ is fits. c.put_pieces.ensures.too_large
    (c.in_err-put_pieces.was ∙ ap Err (error_is c.from_residual-in_err-put_pieces.result _ _
    c.from_residual-in_err-put_pieces.ensures.1 is))
    (subst (λ (pieces : List Piece). IsList IsFlatFile (map file_told pieces)) (sym c.deref.ensures.value) fits.files)

pub returns-clause-fits : goal.returns-clause-fits
returns-clause-fits c = record {
  name = subst IsText c.as_str.ensures.value c.in_ok-put_text.ensures.fits;
  head = subst IsText c.as_str-2.ensures.value c.in_ok-put_text-2.ensures.fits;
  files = subst (λ (pieces : List Piece). IsList IsFlatFile (map file_told pieces)) c.deref.ensures.value
      c.in_ok-put_pieces.ensures.fits;
}
