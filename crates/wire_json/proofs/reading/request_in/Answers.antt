use Rattle.std.proofs.lemmas.Result.{err_from_is_err_and}
use Rattle.serde_json.specs.View.{view}
use Rattle.command_words.specs.Command.{in_ranges}
use Rattle.wire_json.specs.CommandText.{command_in}
use Rattle.wire_json.proofs.Faults.{command-fault, account-fault}
use Rattle.wire_json.proofs.Requests.{asked-ok}
use Rattle.wire_json.proofs.Rows.{kind-ok, kept-kind, kept-ranges}
use Rattle.wire_json.proofs.reading.request_in.Goals as goal

pub returns-in_err-command-clause-request : goal.returns-in_err-command-clause-request
returns-in_err-command-clause-request c =
    let p = err_from_is_err_and c.from_residual-in_err-command.result c.from_residual-in_err-command.ensures.1 in
    let name = c.in_ok-name.ensures.text in
    let account = kind-ok _ _ c.in_ok-account.ensures in
    rw (p.1, p.2, name, account) (command-fault c.in_err-command.field-0.0 c.in_ok-account.account (command_in c.in_ok-name.name.now (view c.args.value.now)) c.in_err-command.ensures)

pub returns-in_err-account-2-clause-request : goal.returns-in_err-account-2-clause-request
returns-in_err-account-2-clause-request c =
    let p = err_from_is_err_and c.from_residual-in_err-account-2.result c.from_residual-in_err-account-2.ensures.1 in
    let name = c.in_ok-name.ensures.text in
    let account = kind-ok _ _ c.in_ok-account.ensures in
    let command = kept-kind in_ranges (command_in c.in_ok-name.name.now (view c.args.value.now)) c.in_ok-command.command c.in_ok-command.ensures in
    rw (p.1, p.2, name, account, command) (account-fault c.in_err-account-2.field-0.0 c.in_ok-account.account c.in_ok-command.command c.in_err-account-2.ensures)

pub returns-clause-request : goal.returns-clause-request
returns-clause-request c =
    let name = c.in_ok-name.ensures.text in
    let account = kind-ok _ _ c.in_ok-account.ensures in
    let command = kept-kind in_ranges (command_in c.in_ok-name.name.now (view c.args.value.now)) c.in_ok-command.command c.in_ok-command.ensures in
    let fits = kept-ranges in_ranges (command_in c.in_ok-name.name.now (view c.args.value.now)) c.in_ok-command.command c.in_ok-command.ensures in
    rw (name, account, command) (asked-ok c.in_ok-account.account c.in_ok-account-2.account c.in_ok-command.command c.in_ok-account-2.ensures fits)

pub returns-clause-ranges : goal.returns-clause-ranges
returns-clause-ranges c = kept-ranges in_ranges (command_in c.in_ok-name.name.now (view c.args.value.now)) c.in_ok-command.command c.in_ok-command.ensures
