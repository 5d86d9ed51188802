use Rattle.std.proofs.Common.{◌≡◌, Some, sym, ap, ◌∙◌}
use Rattle.std.proofs.lemmas.Bool.{not-false}
use Rattle.std.proofs.lemmas.Slice.Eq.{bytes_eq-Decides}
use Rattle.std.specs.List.{slice_get}
use Rattle.elasticlunr_trie_nodes.specs.Names.{number_of}
use Rattle.elasticlunr_trie_nodes.proofs.names.Names.entered_last.Goals as goal

pub returns : goal.returns
returns c =
    let same : c.name.result.now ≡ c.args.name.now = (bytes_eq-Decides _ _).0
    (not-false _ (sym c.ne.ensures ∙ c.if-ne.false)) in
    let there = c.name.ensures ∙ ap Some same in
    ap (λ names. number_of names c.args.name.now) (sym c.self.view_is)
    ∙ c.self.invariant.1 _ _ (ap (λ names. slice_get names c.self.inside.recent) c.self.view_is ∙ there)
