pub mod Acceptance
pub mod Advances
pub mod Ahead
pub mod AloneReplies
pub mod AskedHold
pub mod AtHome
pub mod AuditLawsHold
mod AuditWitnesses
pub mod Begun
pub mod BoundedCounts
pub mod ByWeight
pub mod CallerLawsHold
pub mod Comes
pub mod ConfiguredRate
pub mod DelayBound
pub mod Delays
mod DeleteWitnesses
pub mod Delivered
mod DeterminedWitnesses
pub mod Determines
pub mod Divided
mod DividedWitnesses
pub mod DropLaws
pub mod EachHead
pub mod EachWaiting
pub mod Elsewhere
pub mod Exactly
pub mod Fair
mod FairWitness
pub mod Fates
pub mod FieldsRead
pub mod GivesHold
pub mod Heads
pub mod Isolation
pub mod JoinsHold
pub mod Kept
mod KeptWitnesses
mod LawWitnesses
pub mod LawWords
pub mod LawsHold
pub mod Least
pub mod LineDeletesHold
pub mod LineLawsHold
pub mod LineOptionsHold
pub mod LinePrefixHolds
mod LineRefusalWitnesses
pub mod LineSteps
pub mod LineValues
mod LineWitnesses
pub mod LineWordsHold
pub mod Masks
pub mod Members
pub mod Obeyed
pub mod Obeying
pub mod OnPipes
pub mod OneLink
pub mod OnlyHistoriesHold
pub mod OnlyRowsHold
pub mod PartCalls
pub mod PartGiven
pub mod PartReplays
pub mod PartReplies
pub mod PartSettings
pub mod PartStarts
mod PartWitnesses
pub mod Parts
pub mod PartsAlone
pub mod PartsWhole
pub mod Pauses
pub mod PickLaws
pub mod Places
pub mod PlainLawsHold
pub mod QueuesRate
pub mod Rates
mod ReadingWitnesses
pub mod Readings
pub mod ReadingsObey
pub mod RecordLawsHold
mod RecordWitnesses
mod ReplyWitnesses
pub mod ReportLawsHold
mod ReportWitnesses
pub mod ReservationLawsHold
mod ReservationWitnesses
pub mod Resets
pub mod SameAnswers
pub mod SameCalls
pub mod SameReadings
pub mod SameReplies
pub mod Seen
pub mod ServiceHeadline
pub mod ServiceLawsHold
mod ServiceWitnesses
pub mod SessionLawsHold
mod SessionWitnesses
pub mod SettlingHolds
pub mod Shares
pub mod SortedLines
pub mod Spares
pub mod StartLaws
pub mod StatesHold
pub mod Steady
pub mod Sums
pub mod Tags
pub mod TagsElsewhere
pub mod Timely
pub mod ToldCommands
pub mod ToldCounts
pub mod ToldDeliveries
pub mod WaitBounds
mod WaitWitnesses
pub mod Waits
pub mod WakesHold
mod Witnesses
pub mod Words
