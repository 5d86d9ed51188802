use Rattle.std.proofs.Common.{◌∙◌}
use Rattle.std.proofs.Math.Seq.{map-set_same}
use Rattle.std.proofs.lemmas.List.{length-set}
use Rattle.std.proofs.lemmas.List.Elements.{All-set}
use Rattle.elasticlunr_trie_nodes.specs.Trie.{step_of}
use Rattle.elasticlunr_trie_nodes.specs.Starts.{IsStart, told}
use Rattle.elasticlunr_trie.proofs.inverted_index.starts.finish_all.Goals as goal

pub loop-i-preserved : goal.loop-i-preserved
loop-i-preserved c =
    let starts = c.loop-i.starts in
    let i = c.loop-i.i in
    let new = c.finish.result in (
      All-set (IsStart (step_of c.args.root.now c.args.nodes.now)) starts i new c.finish.ensures.start
          c.loop-i.invariant.0,
      map-set_same told starts i new _ c.finish.ensures.told ∙ c.loop-i.invariant.1,
      length-set starts i new ∙ c.loop-i.invariant.2,
    )
