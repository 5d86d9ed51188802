use Rattle.elasticlunr_laws.proofs.search.a_searcher_has_the_printed_fields.Goals as goal

pub returns : goal.returns
returns g c = λ language kept plan calls text printed searches.
    (searches plan printed.commands printed.print).read.fields
