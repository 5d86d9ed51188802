use Rattle.std.proofs.Common.{rules, ◌<◌, length, sym, ap, ◌∙◌}
use Rattle.std.specs.List.{slice_get}
use Rattle.elasticlunr_text.specs.Text.{bytes_of}
use Rattle.elasticlunr.proofs.Holding.{held, table_of_held}
use Rattle.elasticlunr.proofs.index.Index.inverted_index.Goals as goal

pub returns-in-Some-place_of-clause-trie : goal.returns-in-Some-place_of-clause-trie
returns-in-Some-place_of-clause-trie g c = λ commands stands.
    let i = c.in-Some-place_of.i in
    let inside : i < length c.in-Some.contents.tries.items = search rules in (
      i,
      ap (λ names. slice_get (bytes_of names) i) (sym c.deref.ensures.value) ∙ c.in-Some-place_of.ensures.found.1,
      table_of_held _ commands c.in-Some.contents i c.index.result.now inside c.index.ensures
          (held _ _ c.in-Some.contents commands c.in-Some.is stands),
    )

pub returns-in_default-clause-failed : goal.returns-in_default-clause-failed
returns-in_default-clause-failed g c = search rules

pub returns-in_default-clause-errors : goal.returns-in_default-clause-errors
returns-in_default-clause-errors g c = search rules

pub returns-in-Some-place_of-clause-failed : goal.returns-in-Some-place_of-clause-failed
returns-in-Some-place_of-clause-failed g c = search rules

pub returns-in-Some-place_of-clause-found : goal.returns-in-Some-place_of-clause-found
returns-in-Some-place_of-clause-found g c = search rules

pub returns-in-None-clause-failed : goal.returns-in-None-clause-failed
returns-in-None-clause-failed g c = search rules

pub returns-in-None-clause-found : goal.returns-in-None-clause-found
returns-in-None-clause-found g c = search rules
