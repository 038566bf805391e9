use Rattle.std.proofs.Common.{◌≡◌, ◌∷◌, rules}
use Rattle.json.specs.Token.{Token}
use Rattle.lab_history_file.proofs.Gathered.{gathering_begins, gathering_goes_on, member_shortens, gathering_ends}
use Rattle.lab_history_file.proofs.reading.stream.object.read_object.Goals as goal

pub members-init : goal.members-init
members-init g c = gathering_begins g.F.Fields.LEVELS (g.F.Fields.hold c.args.version) c.args.cursor.now c.open_object.new.self c.args.fields.now c.in_ok-open_object.ensures

pub members-preserved : goal.members-preserved
members-preserved g c =
    let l = c.members in
    let key : l.cursor ≡ Token.key c.in-Some.key.now ∷ c.next_key.new.self = search rules in
    gathering_goes_on g.F.Fields.LEVELS (g.F.Fields.hold c.args.version) c.args.cursor.now l.cursor c.next_key.new.self c.read_member.new.cursor c.in-Some.key.now c.args.fields.now l.fields c.read_member.new.self l.invariant key c.in_ok-read_member.ensures

pub members-smaller : goal.members-smaller
members-smaller g c =
    let l = c.members in
    let key : l.cursor ≡ Token.key c.in-Some.key.now ∷ c.next_key.new.self = search rules in
    member_shortens g.F.Fields.LEVELS (g.F.Fields.hold c.args.version) l.cursor c.next_key.new.self c.read_member.new.cursor c.in-Some.key.now l.fields c.read_member.new.self key c.in_ok-read_member.ensures

pub returns : goal.returns
returns g c =
    let l = c.members in
    let ends : l.cursor ≡ Token.end_object ∷ c.next_key.new.self = search rules in
    gathering_ends g.F.Fields.LEVELS (g.F.Fields.hold c.args.version) c.args.cursor.now l.cursor c.next_key.new.self c.args.fields.now l.fields l.invariant ends
