-- The commands of the program, as the code names them.
use Rattle.model_player.specs.Commands as commands
use Rattle.player_session.specs.declared.command.Command.{Command}
use Rattle.player_session.specs.declared.command.Command.TheVariants as variants
use Rattle.player_session.specs.declared.command.Play.{Play}

-- the play of these names and counts
abbrev pub play_named : Play → commands.Command
play_named play =
    commands.play play.constants.now play.film.now play.script.now play.counts

-- the command of these names
abbrev pub command_named : Command → commands.Command
command_named (variants.Info film) = commands.info film.now
command_named (variants.Dump constants film) = commands.dump constants.now film.now
command_named (variants.Play play) = play_named play
command_named (variants.Trial number counts) = commands.trial number counts
