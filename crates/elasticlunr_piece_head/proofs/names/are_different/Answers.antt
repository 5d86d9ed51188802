use Rattle.std.proofs.Common.{◌≡◌, true≢false, [], get_or, string_bytes, refl, sym, ap, ◌∙◌, arith}
use Rattle.std.proofs.lemmas.List.{length-map}
use Rattle.elasticlunr_error.specs.Text.{bytes_of}
use Rattle.elasticlunr_piece_head.proofs.Differing.{all_seen, not_false, not_true, one_more_seen, seen_twice}
use Rattle.elasticlunr_piece_head.proofs.Splitting.{bytes_at}
use Rattle.elasticlunr_piece_head.proofs.names.are_different.Goals as goal

pub returns-then-not-branch : goal.returns-then-not-branch
returns-then-not-branch c =
    let names = c.args.names.now in
    let i = c.loop-name.name-index in
    let here : get_or (bytes_of names) i [] ≡ c.as_str.result.now =
    bytes_at names i c.name-item.result c.loop-name-test.true ∙ ap string_bytes (sym c.name-item.is)
    ∙ sym c.as_str.ensures.value in (
      λ e. absurd (true≢false (sym e)),
      λ differ. absurd (seen_twice (bytes_of names) c.loop-name.seen i c.as_str.result
          (omega (arith, c.loop-name-test.true, length-map names string_bytes))
          (not_false c.in_ok-insert.field-0 c.if-not-branch.true _ c.in_ok-insert.ensures.added) here
          c.loop-name.invariant differ),
    )

pub loop-name-preserved : goal.loop-name-preserved
loop-name-preserved c =
    let names = c.args.names.now in
    let i = c.loop-name.name-index in
    let here : get_or (bytes_of names) i [] ≡ c.as_str.result.now =
    bytes_at names i c.name-item.result c.loop-name-test.true ∙ ap string_bytes (sym c.name-item.is)
    ∙ sym c.as_str.ensures.value in
    one_more_seen (bytes_of names) c.loop-name.seen c.insert.new.self i c.as_str.result c.in_ok-insert.ensures.updates
    (not_true c.in_ok-insert.field-0 c.if-not-branch.false _ c.in_ok-insert.ensures.added) here c.loop-name.invariant

pub returns : goal.returns
returns c =
    let names = c.args.names.now in (
      λ _. all_seen (bytes_of names) c.loop-name.seen c.loop-name.name-index
          (omega (arith, c.loop-name-test.false, length-map names string_bytes)) c.loop-name.invariant,
      λ _. refl,
    )
