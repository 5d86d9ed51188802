use Rattle.std.proofs.Common.{◌++◌, string_bytes, refl, subst, arith}
use Rattle.std.proofs.lemmas.List.{length-map}
use Rattle.sha2.specs.Hashers.{Holds256}
use Rattle.elasticlunr_json.proofs.Seen.{on_err}
use Rattle.elasticlunr_pieces.proofs.Made.{texts_made, texts_stay}
use Rattle.elasticlunr_pieces.proofs.making.Pieces.next_of_texts.Goals as goal

pub returns-clause-made : goal.returns-clause-made
returns-clause-made c tries texts titles has = texts_made c.args.self.now c.next_of.new.progress c.update.new.self tries texts titles
    c.in_ok-piece.piece _ c.deref.result.now has (omega (arith, c.requires.there)) (omega (
      arith,
      c.requires.tries,
      length-map
          c.args.self.now.tokens.items string_bytes,
    ))
    c.deref.ensures.value c.in_ok-piece.ensures.made refl refl refl
    (λ m h. subst (λ t. Holds256 c.update.new.self (m ++ t)) c.as_str.ensures.value (c.update.ensures m h))

pub returns-in_err-piece-clause-err : goal.returns-in_err-piece-clause-err
returns-in_err-piece-clause-err c = on_err c.from_residual.result _ (λ tries texts titles has.
    texts_stay c.args.self.now c.next_of.new.progress tries texts titles c.in_err-piece.ensures.err has)

pub returns-clause-fewer : goal.returns-clause-fewer
returns-clause-fewer c = let more = c.in_ok-piece.ensures.further in omega (arith, more, c.requires.there)

pub returns-in_err-piece-clause-left : goal.returns-in_err-piece-clause-left
returns-in_err-piece-clause-left c = on_err c.from_residual.result _
    (let stays = c.in_err-piece.ensures.err.next in omega (arith, stays))
