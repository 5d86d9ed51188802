use Rattle.std.proofs.Common.{◌≡◌, ◌<◌, length, Some, refl, ap, sym, subst, ◌∙◌, arith}
use Rattle.std.proofs.lemmas.Option.{slice_get_read}
use Rattle.std.specs.List.{slice_get}
use Rattle.elasticlunr_text.specs.Text.{bytes_of}
use Rattle.elasticlunr.specs.Fields.{has_name}
use Rattle.elasticlunr_search.proofs.searcher.Searcher.trie.Goals as goal

pub returns-in-Some-clause-there : goal.returns-in-Some-clause-there
returns-in-Some-clause-there g c = (
  λ there. ap (λ ns. has_name c.args.field.now (bytes_of ns))
      (sym c.deref.ensures.value) ∙ c.in-Some.ensures.is_found.0 refl,
  λ named. refl,
)

pub returns-in-Some-clause-trie : goal.returns-in-Some-clause-trie
returns-in-Some-clause-trie g c =
    let tries = c.args.self.now.printed.tries in
    let fields = c.args.self.now.printed.fields in
    let inside : c.in-Some.i < length tries.items =
    omega (
      arith,
      ap length c.deref.ensures.value,
      c.in-Some.ensures.found.0,
      c.args.self.now.printed.one_each,
      tries.ok.0,
      fields.ok.0,
    ) in (
      c.in-Some.i,
      subst (λ ns. slice_get (bytes_of ns) c.in-Some.i ≡ Some c.args.field.now) c.deref.ensures.value
          c.in-Some.ensures.found.1,
      slice_get_read tries.items (length tries.items) c.in-Some.i c.index.result.now refl inside c.index.ensures,
    )
