use Rattle.std.proofs.Common.{rules, ◌<◌, length}
use Rattle.elasticlunr.specs.Tokenizers.{MayAnswer}
use Rattle.elasticlunr.proofs.Reading.{made_at}
use Rattle.elasticlunr.proofs.settings.Settings.tokenize.Goals as goal

pub returns-in-Some : goal.returns-in-Some
returns-in-Some g c =
    let inside : c.args.i < length c.args.self.now.tokenizers.items = search rules in
    made_at g.L.Language.tokens_of MayAnswer c.args.self.now.language c.args.self.now.tokenizers.items c.args.i
    c.index.result.now c.args.value.now c.call.result inside c.index.ensures (rw c.in-Some.is c.call.ensures)

pub returns-in-None : goal.returns-in-None
returns-in-None g c =
    let inside : c.args.i < length c.args.self.now.tokenizers.items = search rules in
    made_at g.L.Language.tokens_of MayAnswer c.args.self.now.language c.args.self.now.tokenizers.items c.args.i
    c.index.result.now c.args.value.now c.tokenize.result inside c.index.ensures
    (rw c.in-None.is c.tokenize.ensures)
