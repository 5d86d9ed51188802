use Rattle.std.proofs.Common.{rules, ◌<◌, length}
use Rattle.elasticlunr_lang.specs.Words.{words}
use Rattle.elasticlunr.specs.Tokenizers.{MayAnswer}
use Rattle.elasticlunr.proofs.Reading.{words_at}
use Rattle.elasticlunr.proofs.settings.Settings.reads_words.Goals as goal

pub returns-in-None : goal.returns-in-None
returns-in-None g c =
    let inside : c.args.i < length c.args.self.now.tokenizers.items = search rules in
    words_at g.L.Language.tokens_of MayAnswer words c.args.self.now.language c.args.self.now.tokenizers.items c.args.i
    c.index.result.now c.tokenizes_whitespace.result inside c.index.ensures c.in-None.is
    c.tokenizes_whitespace.ensures
