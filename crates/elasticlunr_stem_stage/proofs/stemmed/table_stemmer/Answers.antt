use Rattle.std.proofs.Common.{refl, subst}
use Rattle.std.specs.Prelude.{IfOk}
use Rattle.elasticlunr_stem_tables.specs.declared.language.Version.TheVariants.{Current}
use Rattle.elasticlunr_stem_stage.specs.Stemmer.{IsStemmerOf}
use Rattle.elasticlunr_stem_stage.proofs.stemmed.table_stemmer.Goals as goal

pub returns-in-Ok-clause-stems : goal.returns-in-Ok-clause-stems
returns-in-Ok-clause-stems c = λ word.
    let ok : IsStemmerOf c.args.table Current c.in-Ok.stemmer =
    subst (λ r. IfOk r (IsStemmerOf c.args.table Current)) c.in-Ok.is c.read_stemmer.ensures.ok in
    rw (ok.reads) refl
