use Rattle.std.proofs.Common.{rules}
use Rattle.elasticlunr_json.proofs.tokens.Token.to_json.Goals as goal

pub returns-in-BeginObject-clause-same : goal.returns-in-BeginObject-clause-same
returns-in-BeginObject-clause-same c = search rules

pub returns-in-EndObject-clause-same : goal.returns-in-EndObject-clause-same
returns-in-EndObject-clause-same c = search rules

pub returns-in-BeginArray-clause-same : goal.returns-in-BeginArray-clause-same
returns-in-BeginArray-clause-same c = search rules

pub returns-in-EndArray-clause-same : goal.returns-in-EndArray-clause-same
returns-in-EndArray-clause-same c = search rules

pub returns-in-Key-clause-same : goal.returns-in-Key-clause-same
returns-in-Key-clause-same c = search rules

pub returns-in-String-clause-same : goal.returns-in-String-clause-same
returns-in-String-clause-same c = search rules

pub returns-in-Bool-clause-same : goal.returns-in-Bool-clause-same
returns-in-Bool-clause-same c = search rules
