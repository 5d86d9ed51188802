use Rattle.std.proofs.Common.{◌∙◌, ap}
use Rattle.std.specs.Str.{chars}
use Rattle.std.proofs.lemmas.Result.{IfOk-weaker}
use Rattle.elasticlunr_stems.specs.Held.{table_of}
use Rattle.elasticlunr_stems.specs.Stems.{stem_of}
use Rattle.elasticlunr_stem_cache.proofs.stemmer.CachedStemmer.stem.Goals as goal

pub returns-in-Some : goal.returns-in-Some
returns-in-Some c = IfOk-weaker c.written.result _ _
    (λ stem same. same ∙ c.in-Some.ensures _ c.args.self.now.reads
    ∙ ap (λ word. stem_of (table_of c.args.self.now.stemmer) (chars word)) c.as_str.ensures.value) c.written.ensures
