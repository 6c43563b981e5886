use Rattle.std.proofs.Common.{◌≡◌, map, take}
use Rattle.proof_tree.specs.Names.{messages_in}
use Rattle.cert_checker.proofs.names.message_names.Given as goal

abbrev pub invariant-loop-app : goal.invariant-loop-app
invariant-loop-app l = l.list ≡ map (λ t. t.name) (messages_in (take l.app-index l.apps))
