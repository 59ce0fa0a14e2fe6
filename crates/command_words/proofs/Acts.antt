-- What a command that may be an act's is, part by part.
use Rattle.std.proofs.Common.{◌≡◌, ◌&&◌, true}
use Rattle.std.proofs.lemmas.Bool.{and_parts}
use Rattle.command_words.specs.Command.{makes_act, in_ranges, is_act_form, may_be_act}
use Rattle.command_words.specs.declared.command.Command.{Command}

pub act-makes : (command : Command) → may_be_act command ≡ true → makes_act command ≡ true
act-makes command may = (and_parts (makes_act command) (in_ranges command && is_act_form command) may).0

pub act-ranges : (command : Command) → may_be_act command ≡ true → in_ranges command ≡ true
act-ranges command may = (and_parts (in_ranges command) (is_act_form command) (and_parts (makes_act command) (in_ranges command && is_act_form command) may).1).0

pub act-form : (command : Command) → may_be_act command ≡ true → is_act_form command ≡ true
act-form command may = (and_parts (in_ranges command) (is_act_form command) (and_parts (makes_act command) (in_ranges command && is_act_form command) may).1).1

pub act-of-parts : (command : Command) → makes_act command ≡ true → in_ranges command ≡ true → is_act_form command ≡ true → may_be_act command ≡ true
act-of-parts command makes ranges form = rw (makes, ranges) form
