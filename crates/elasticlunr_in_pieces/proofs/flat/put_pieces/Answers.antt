use Rattle.std.proofs.Common.{Err, ap, ◌∙◌}
use Rattle.elasticlunr_in_pieces.proofs.Bytes.{error_is, fits_all, fits_more, not_all, written_all, written_more}
use Rattle.elasticlunr_in_pieces.proofs.flat.put_pieces.Goals as goal

pub loop-piece-preserved : goal.loop-piece-preserved
loop-piece-preserved c = record {
  fits = fits_more c.args.pieces.now c.loop-piece.piece-index c.piece-item.result c.loop-piece-test.true c.piece-item.is
      c.loop-piece.invariant.fits c.in_ok-put_file.ensures.fits;
  written = written_more _ c.args.pieces.now c.loop-piece.piece-index c.piece-item.result _ _ c.loop-piece-test.true
      c.piece-item.is c.loop-piece.invariant.written c.in_ok-put_file.ensures.ok;
}

pub returns-clause-fits : goal.returns-clause-fits
returns-clause-fits c = fits_all c.args.pieces.now c.loop-piece.piece-index c.loop-piece-test.false
    c.in_ok-put_number.ensures.fits c.loop-piece.invariant.fits

pub returns-clause-ok : goal.returns-clause-ok
returns-clause-ok c = written_all c.args.out.now.items c.put_number.new.out.items c.loop-piece.out.items
    c.args.pieces.now c.loop-piece.piece-index c.loop-piece-test.false c.in_ok-put_number.ensures.ok
    c.loop-piece.invariant.written

pub returns-in_err-put_file-clause-too_large : goal.returns-in_err-put_file-clause-too_large
returns-in_err-put_file-clause-too_large c = λ is. not_all c.args.pieces.now c.loop-piece.piece-index
    c.piece-item.result c.loop-piece-test.true c.piece-item.is (c.put_file.ensures.too_large
    (c.in_err-put_file.was ∙ ap Err (error_is c.from_residual-in_err-put_file.result _ _
    c.from_residual-in_err-put_file.ensures.1 is)))
