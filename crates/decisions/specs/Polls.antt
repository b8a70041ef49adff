-- What comes with a poll, as the definitions see it.
use Rattle.std.specs.Prelude.{◌≡◌, Option, None, Some, ⊤}
use Rattle.std.specs.Option.{option_map}
use Rattle.store_rules.specs.Poll.{Content}
use Rattle.store_rules.specs.Store.{Call, poll}
use Rattle.store_rules.specs.View.{IsPaired, content_seen, Bodies}
use Rattle.guards.specs.Recording.{bodies_in}
use Rattle.decisions.specs.declared.asked.Given.{Given}
use Rattle.decisions.specs.declared.asked.Poll.{Poll}

-- the content that came, if any did
abbrev pub content_given : Option Given → Option Content
content_given o = option_map (λ (g : Given). content_seen g.content) o

-- the content that came is a hash for each nonce
abbrev pub IsWhole : Option Given → Type 0
IsWhole None = ⊤
IsWhole (Some g) = IsPaired g.content

-- the bodies are those that came with the content; without content no body is read
abbrev pub LendsBodies : Option Given → Bodies → Type 0
LendsBodies None bodies = ⊤
LendsBodies (Some g) bodies = bodies ≡ bodies_in g.bodies.now

-- the call that a poll makes
abbrev pub asks : Poll → Call
asks p = poll p.sender p.head p.known.now (content_given p.given)
