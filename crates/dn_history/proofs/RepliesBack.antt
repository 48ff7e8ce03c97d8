-- The records of a reply, read back.
use Rattle.dn_history.proofs.Words.{Fields, HistoryVersion, IsLong, IsReply, List, Ok, Reply, column, decimal, delivered_from, field_at, has_deletes, item_records, length, plain_reply, queued_of}
use Rattle.dn_history.proofs.Words.{refl, reply_by, reply_record, status_from, timed_reply, true, two_of, ℕ, ◌++◌, ◌≡◌}
use Rattle.dn_types.specs.declared.reply.Reply.TheVariants as r
use Rattle.dn_history.proofs.ItemsBack.{Reads, deliveries_back, long_back, statuses_back}

two_back : (first second : ℕ) (fields : Fields) → column 3 fields ≡ decimal first → column 4 fields ≡ decimal second → IsLong first → IsLong second → two_of fields ≡ Ok (first, second)
unfolding two_of
two_back first second fields a b h k = rw (long_back 3 first fields a h, long_back 4 second fields b k) refl

queued_back : (at flow packet : ℕ) → IsLong at → IsLong flow → IsLong packet → queued_of (reply_record (r.Queued at flow packet)) ≡ Ok (r.Queued at flow packet)
unfolding queued_of field_at
queued_back at flow packet h k l =
    let fields = reply_record (r.Queued at flow packet) in
    rw (long_back 3 at fields refl h, long_back 4 flow fields refl k, long_back 5 packet fields refl l) refl

-- The record of a reply, and those of its list behind it.
pub reply_back : (version : HistoryVersion) (reply : Reply) → has_deletes version ≡ true → IsReply reply → (number start : ℕ) (left : List Fields)
    → Reads (reply_by version number (reply_record reply) (record { number = start; records = item_records reply ++ left })) reply left
unfolding reply_by plain_reply timed_reply delivered_from status_from field_at
reply_back version r.Configured has h number start left = (start, refl)
reply_back version r.NoSuchPipe has h number start left = (start, refl)
reply_back version r.Exhausted has h number start left = (start, refl)
reply_back version r.Deleted has h number start left = (start, rw has refl)
reply_back version r.PipeHasQueues has h number start left = (start, rw has refl)
reply_back version r.NoSuchQueue has h number start left = (start, rw has refl)
reply_back version (r.Queued at flow packet) has h number start left = (start, rw (has, queued_back at flow packet h.0 h.1 h.2) refl)
reply_back version (r.Lost at flow) has h number start left = (start, rw (has, two_back at flow (reply_record (r.Lost at flow)) refl refl h.0 h.1) refl)
reply_back version (r.Full at flow) has h number start left = (start, rw (has, two_back at flow (reply_record (r.Full at flow)) refl refl h.0 h.1) refl)
reply_back version (r.NoTarget at) has h number start left = (start, rw (has, long_back 3 at (reply_record (r.NoTarget at)) refl h) refl)
reply_back version (r.Advanced at) has h number start left = (start, rw (has, long_back 3 at (reply_record (r.Advanced at)) refl h) refl)
reply_back version (r.Delivered at list) has h number start left =
    let items = deliveries_back list h.2 start left in
    (items.0, rw (two_back at (length list) (reply_record (r.Delivered at list)) refl refl h.0 h.1, items.1) refl)
reply_back version (r.Status list) has h number start left =
    let items = statuses_back version list has h.1 start left in
    (items.0, rw (long_back 3 (length list) (reply_record (r.Status list)) refl h.0, items.1) refl)
