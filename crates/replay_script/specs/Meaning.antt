-- What a form that was read says
use Rattle.replay_script.specs.declared.form.LineForm.{LineForm}
use Rattle.replay_script.specs.declared.form.LineForm.TheVariants as reads
use Rattle.replay_script.specs.Form.{Form, Passed, Go, UntilBeacon, Lose, Request, Restart}

-- the same form, with the names' bytes
abbrev pub meaning : LineForm → Form
meaning reads.Passed = Passed
meaning (reads.Go n) = Go n
meaning reads.UntilBeacon = UntilBeacon
meaning (reads.Lose names) = Lose names
meaning (reads.Request name) = Request name.now
meaning (reads.Restart name) = Restart name.now
